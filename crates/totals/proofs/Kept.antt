-- The totals as they are kept are those of the stored rows, after each step. Assumes nothing.
use mathlib.Core.Path.{◌≡◌, refl, sym, ap, ap₂, ◌∙◌, subst}
use mathlib.Core.Bool.{Bool, true, false, cond}
use mathlib.Core.Logic.{◌≢◌}
use mathlib.Core.List.{List, ◌++◌}
use Prim.Native.Nat.{ℕ, suc, ◌+◌, ◌*◌, ◌^◌, ◌≤◌, ◌<◌}
use native.Mathlib.Decide.{ℕ_discrete}
use native.Mathlib.Omega.{arith}
use native.Mathlib.Nat.{lt_trans, lt_of_le_of_lt}
use borrow.Author.Tests.{eq-eqb, ne_eqb}
use lib.Dec.{eqb, lit<}
use lib.ListN.{length, drop, length-append, length-drop}
use lib.Seq.{drop_at}
use Rattle.words.specs.Words.{word_count}
use Rattle.calendar.specs.Calendar.{days_in_year}
use Rattle.simulation_time.specs.declared.run.Run.{Run}
use Rattle.jobs.specs.declared.answers.Row.{Row}
use Rattle.jobs.specs.declared.answers.Totals.{Totals}
use Rattle.jobs.specs.Rows.{put_row}
use Rattle.jobs.specs.Totals.{no_totals, with_step, day_of_step, totals_of, totals_count, month_part, in_part, totals_at_part, totals_at, put_totals, totals_records, with_totals}
use Rattle.jobs.proofs.RowStores.{RowFits}
use Rattle.jobs.proofs.TotalsRecords.{length_records, length_put_totals, put_again, put_swapped, put_among}
use Rattle.jobs.proofs.TotalsLaws.{totals_few, part_next, month_to, day_to, day_in, month_in, no_other, totals_read}
use Rattle.totals.specs.declared.Parts.{Parts}
use Rattle.totals.specs.declared.KeptTotals.{KeptTotals}
use Rattle.totals.specs.Kept.{emptied, parts_of, kept_totals, with_row_added, put_kept}

-- ---- the parts of a day

-- there is a first day
pub year_starts : (leap : Bool) → 0 < days_in_year leap
unfolding days_in_year
year_starts true = omega arith
year_starts false = omega arith

-- ---- the totals, step by step

-- 64 bits hold the number of any step
pub small : (i : ℕ) → i < 35137 → i < 2 ^ 64
small i h = lt_trans h (lit< tt)

small_next : (i : ℕ) → i < 35137 → suc i < 2 ^ 64
small_next i h = lt_of_le_of_lt h (lit< tt)

-- before the first step
pub none_added : (leap : Bool) (run : Run) (results totals : List ℕ) → emptied leap totals ≡ with_totals leap run results 0 totals
unfolding emptied with_totals totals_at_part totals_of
none_added leap run results totals = refl

-- emptied, a list that has room is as long as it was
pub length-emptied : (leap : Bool) (totals : List ℕ) → 24 * totals_count leap ≤ length totals → length (emptied leap totals) ≡ length totals
unfolding emptied
length-emptied leap totals h =
    length-append (totals_records (λ (k : ℕ). no_totals) (totals_count leap) 0) (drop (24 * totals_count leap) totals)
    ∙ omega (arith, length_records (λ (k : ℕ). no_totals) (totals_count leap) 0, length-drop (24 * totals_count leap) totals, h)

-- emptying leaves the bytes behind
behind_emptied : (leap : Bool) (totals : List ℕ) → drop (24 * totals_count leap) (emptied leap totals) ≡ drop (24 * totals_count leap) totals
unfolding emptied
behind_emptied leap totals =
    drop_at (totals_records (λ (k : ℕ). no_totals) (totals_count leap) 0) (drop (24 * totals_count leap) totals) (24 * totals_count leap) (length_records (λ (k : ℕ). no_totals) (totals_count leap) 0)

pub emptied_again : (leap : Bool) (totals : List ℕ) → emptied leap totals ≡ emptied leap (emptied leap totals)
unfolding emptied
emptied_again leap totals = ap (λ (rest : List ℕ). totals_records (λ (k : ℕ). no_totals) (totals_count leap) 0 ++ rest) (sym (behind_emptied leap totals))

-- so it makes no difference to the totals whether the list was emptied
pub over_emptied : (leap : Bool) (run : Run) (results : List ℕ) (n : ℕ) (totals : List ℕ)
    → with_totals leap run results n (emptied leap totals) ≡ with_totals leap run results n totals
unfolding with_totals
over_emptied leap run results n totals =
    ap (λ (rest : List ℕ). totals_records (totals_at_part leap run results n) (totals_count leap) 0 ++ rest) (behind_emptied leap totals)

-- stored, both leave the list as long as it was
pub length_kept : (totals : List ℕ) (kept : KeptTotals) → length (put_kept totals kept) ≡ length totals
unfolding put_kept
length_kept totals kept = length_put_totals _ _ _ ∙ length_put_totals totals kept.parts.day kept.day

-- stored over others of the same day and month, they are what stays
pub kept_over : (totals : List ℕ) (old new : KeptTotals) → old.parts ≡ new.parts → old.parts.day < old.parts.month
    → 24 * old.parts.month + 24 ≤ length totals → put_kept (put_kept totals old) new ≡ put_kept totals new
unfolding put_kept
kept_over totals old new e b h =
    let d : ℕ = old.parts.day in
    let m : ℕ = old.parts.month in
    let one : List ℕ = put_totals totals d old.day in
    let long : length one ≡ length totals = length_put_totals totals d old.day in
    let wide : length (put_totals totals d new.day) ≡ length totals = length_put_totals totals d new.day in
    ap (λ (p : Parts). put_totals (put_totals (put_totals one m old.month) p.day new.day) p.month new.month) (sym e)
    ∙ ap (λ (l : List ℕ). put_totals l m new.month)
    (sym (put_swapped one d m new.day old.month b (omega (arith, h, long)))
    ∙ ap (λ (l : List ℕ). put_totals l m old.month) (put_again totals d old.day new.day (omega (arith, h, b))))
    ∙ put_again (put_totals totals d new.day) m old.month new.month (omega (arith, h, wide))
    ∙ ap (λ (p : Parts). put_totals (put_totals totals p.day new.day) p.month new.month) e

-- no record counts more steps than there are rows
pub few_added : (leap : Bool) (run : Run) (results totals : List ℕ) (i k : ℕ) → i < 35137 → k < totals_count leap
    → (totals_at (with_totals leap run results i totals) k).count < 35137
unfolding totals_at_part
few_added leap run results totals i k h l =
    let few : (totals_at (with_totals leap run results i totals) k).count ≤ i =
    subst (λ (t : Totals). t.count ≤ i) (sym (totals_read leap run results i totals (small i h) k l)) (totals_few (in_part leap k) run results i) in
    omega (arith, few, h)

-- what a list of totals has of a day and its month, stored there again, changes nothing
pub kept_stored : (leap : Bool) (run : Run) (results totals : List ℕ) (i day : ℕ) → i < 35137 → day < days_in_year leap
    → put_kept (with_totals leap run results i totals) (kept_totals leap day (with_totals leap run results i totals)) ≡ with_totals leap run results i totals
unfolding put_kept kept_totals parts_of
kept_stored leap run results totals i day few h =
    let whole : List ℕ = with_totals leap run results i totals in
    ap (λ (l : List ℕ). put_totals l (month_part leap day) (totals_at whole (month_part leap day))) (again day (day_to leap day h))
    ∙ again (month_part leap day) (month_to leap day h)
  where
    again : (k : ℕ) → k < totals_count leap
        → put_totals (with_totals leap run results i totals) k (totals_at (with_totals leap run results i totals) k) ≡ with_totals leap run results i totals
    again k l = unfold with_totals in
        let f : ℕ → Totals = totals_at_part leap run results i in
        let rest : List ℕ = drop (24 * totals_count leap) totals in
        ap (put_totals (totals_records f (totals_count leap) 0 ++ rest) k) (totals_read leap run results i totals (small i few) k l)
        ∙ put_among f (totals_count leap) rest k l f (f k) refl (λ j b o. refl)

-- each row, whose day is one of the year's
module _ (leap : Bool) (run : Run) (results totals : List ℕ) (i : ℕ) (row : Row)
    (room : 6 * i + 6 ≤ word_count results) (fits : RowFits row) (few : i < 35137) (h : day_of_step run i < days_in_year leap) where
  abbrev day : ℕ
  day = day_of_step run i

  abbrev rest : List ℕ
  rest = drop (24 * totals_count leap) totals

  abbrev old : ℕ → Totals
  old = totals_at_part leap run results i

  abbrev new : ℕ → Totals
  new = totals_at_part leap run (put_row results i row) (suc i)

  abbrev added : ℕ → Totals
  added k = with_step run.step (old k) row

  -- with the step in its day's record alone
  abbrev of_day : ℕ → Totals
  of_day k = cond (eqb k day) (added k) (old k)

  one_more : (k : ℕ) → in_part leap k day ≡ true → new k ≡ added k
  one_more k e = part_next leap run results i row room fits k ∙ ap (λ (b : Bool). cond b (added k) (old k)) e

  none_more : (k : ℕ) → in_part leap k day ≡ false → new k ≡ old k
  none_more k e = part_next leap run results i row room fits k ∙ ap (λ (b : Bool). cond b (added k) (old k)) e

  abbrev month : ℕ
  month = month_part leap day

  of_day_lem : of_day day ≡ added day
  of_day_lem = ap (λ (b : Bool). cond b (added day) (old day)) (eq-eqb day day refl)

  of_others : (k : ℕ) → k ≢ day → of_day k ≡ old k
  of_others k o = ap (λ (b : Bool). cond b (added k) (old k)) (ne_eqb k day o)

  -- and in its month's too
  of_both : (k : ℕ) → k ≢ month → of_day k ≡ new k
  of_both k o = elim (ℕ_discrete k day) [
    | yes e ↦ subst (λ (d : ℕ). of_day d ≡ new d) (sym e) (of_day_lem ∙ sym (one_more day (day_in leap day h)))
    | no n ↦ of_others k n ∙ sym (none_more k (no_other leap day h k n o))
  ]

  kept_at : (k : ℕ) → k < totals_count leap → totals_at (with_totals leap run results i totals) k ≡ old k
  kept_at k l = totals_read leap run results i totals (small i few) k l

  -- what is kept of the day and the month, with the row, is what the totals with it have there
  pub kept_added : with_row_added run.step row (kept_totals leap day (with_totals leap run results i totals))
      ≡ kept_totals leap day (with_totals leap run (put_row results i row) (suc i) totals)
  unfolding with_row_added kept_totals
  kept_added =
      let read : (k : ℕ) → k < totals_count leap → totals_at (with_totals leap run (put_row results i row) (suc i) totals) k ≡ new k =
      λ k l. totals_read leap run (put_row results i row) (suc i) totals (small_next i few) k l in
      let same : (k : ℕ) → k < totals_count leap → in_part leap k day ≡ true
      → with_step run.step (totals_at (with_totals leap run results i totals) k) row ≡ totals_at (with_totals leap run (put_row results i row) (suc i) totals) k =
      λ k l e. ap (λ (t : Totals). with_step run.step t row) (kept_at k l) ∙ sym (one_more k e) ∙ sym (read k l) in
      λ x. record { parts = parts_of leap day; day = same day (day_to leap day h) (day_in leap day h) x; month = same month (month_to leap day h) (month_in leap day h) x }

  -- stored, first the day's record and then the month's, it makes them those totals
  pub row_added : put_kept (with_totals leap run results i totals) (with_row_added run.step row (kept_totals leap day (with_totals leap run results i totals)))
      ≡ with_totals leap run (put_row results i row) (suc i) totals
  unfolding with_row_added kept_totals put_kept parts_of with_totals
  row_added =
      let count : ℕ = totals_count leap in
      let before : List ℕ = totals_records old count 0 ++ rest in
      let first : put_totals before day (with_step run.step (totals_at before day) row) ≡ totals_records of_day count 0 ++ rest =
      ap (λ (t : Totals). put_totals before day (with_step run.step t row)) (kept_at day (day_to leap day h))
      ∙ put_among old count rest day (day_to leap day h) of_day (added day) of_day_lem (λ k l o. sym (of_others k o)) in
      ap₂ (λ (l : List ℕ) (t : Totals). put_totals l month (with_step run.step t row)) first (kept_at month (month_to leap day h))
      ∙ put_among of_day count rest month (month_to leap day h) new (added month) (one_more month (month_in leap day h)) (λ k l o. of_both k o)
