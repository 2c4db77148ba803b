-- What a run keeps of its days and months: one row more in the results is one step more in the totals of its day and of its month, and
-- nothing in any other. Assumes nothing.
use mathlib.Core.Path.{◌≡◌, refl, sym, ap, ap₂, subst}
use mathlib.Core.Bool.{Bool, true, false, cond, ◌||◌}
use mathlib.Core.Logic.{◌≢◌}
use mathlib.Core.List.{List}
use Prim.Native.Nat.{ℕ, zero, suc, ◌+◌, ◌*◌, ◌^◌, ◌≤◌, ◌<◌}
use native.Mathlib.Omega.{arith}
use borrow.Author.Tests.{eq-eqb, ne_eqb}
use lib.Dec.{eqb}
use lib.ListN.{take, drop}
use lib.Seq.{take_at}
use lib.Ieee.{Float, binary64, is_nan, lt}
use lib.Ieee.Fits.{nan-fits, add-fits}
use lib.Ieee.Bits.{of_bits-fits}
use Rattle.doubles.specs.Arithmetic.{◌⊕◌, ◌⊗◌}
use Rattle.doubles.specs.Functions.{float_max, max_of2}
use Rattle.doubles.specs.Order.{Fits}
use Rattle.doubles.proofs.MinMax.{either_fits}
use Rattle.words.specs.Words.{word_count, double_at}
use Rattle.calendar.specs.Calendar.{days_in_year}
use Rattle.calendar.proofs.Rule.{year_few, calendar_right}
use Rattle.simulation_time.specs.declared.run.Run.{Run}
use Rattle.jobs.specs.declared.answers.Row.{Row}
use Rattle.jobs.specs.declared.answers.Totals.{Totals}
use Rattle.jobs.specs.Rows.{put_row, stored_row, with_row}
use Rattle.jobs.specs.Totals.{no_totals, with_step, day_of_step, totals_of, totals_count, month_part, in_part, totals_at_part, totals_at, totals_records, with_totals}
use Rattle.jobs.proofs.RowStores.{RowFits, double_put_row, stored_row_lem}
use Rattle.jobs.proofs.StepRows.{zero-fits}
use Rattle.jobs.proofs.Sums.{total}
use Rattle.jobs.proofs.TotalsRecords.{TotalsFit, length_records, read_among}

-- ---- rows

module _ (results : List ℕ) (i : ℕ) (row : Row) where
  -- the rows before it stay
  row_before : (j : ℕ) → j < i → stored_row (put_row results i row) j ≡ stored_row results j
  unfolding stored_row
  row_before j h =
      let same : (w : ℕ) → w < 6 → double_at (put_row results i row) (6 * j + w) ≡ double_at results (6 * j + w) =
      λ w l. double_put_row results i row (6 * j + w) (omega (arith, h, l)) in
      let e : 6 * j ≡ 6 * j + 0 = omega arith in
      let first : double_at (put_row results i row) (6 * j) ≡ double_at results (6 * j) = subst (λ (k : ℕ). double_at (put_row results i row) k ≡ double_at results k) (sym e) (same 0 (omega arith)) in
      λ x. record {
        altitude = first x;
        azimuth = same 1 (omega arith) x;
        direct = same 2 (omega arith) x;
        diffuse = same 3 (omega arith) x;
        total = same 4 (omega arith) x;
        factor = same 5 (omega arith) x;
      }

  -- it is read back
  row_here : 6 * i + 6 ≤ word_count results → RowFits row → stored_row (put_row results i row) i ≡ row
  unfolding stored_row
  row_here room fits =
      let h = stored_row_lem results i row room fits in
      λ x. record { altitude = h.altitude x; azimuth = h.azimuth x; direct = h.direct x; diffuse = h.diffuse x; total = h.total x; factor = h.factor x }

-- ---- the totals of some steps

-- they go by the rows alone
pub totals_same : (part : ℕ → Bool) (run : Run) (r s : List ℕ) (n : ℕ) → ((j : ℕ) → j < n → stored_row r j ≡ stored_row s j) → totals_of part run r n ≡ totals_of part run s n
unfolding totals_of
totals_same part run r s zero h = refl
totals_same part run r s (suc n) h =
    ap₂ (λ (t : Totals) (row : Row). cond (part (day_of_step run n)) (with_step run.step t row) t) (totals_same part run r s n (λ j l. h j (omega (arith, l)))) (h n (omega arith))

-- as many steps, whatever the rows
pub counts_same : (part : ℕ → Bool) (run : Run) (r s : List ℕ) (n : ℕ) → (totals_of part run r n).count ≡ (totals_of part run s n).count
unfolding totals_of with_step
counts_same part run r s zero = refl
counts_same part run r s (suc n) = go (part (day_of_step run n)) (counts_same part run r s n)
  where
    go : (b : Bool) → (totals_of part run r n).count ≡ (totals_of part run s n).count
        → (cond b (with_step run.step (totals_of part run r n) (stored_row r n)) (totals_of part run r n)).count
        ≡ (cond b (with_step run.step (totals_of part run s n) (stored_row s n)) (totals_of part run s n)).count
    go true e = unfold with_step in ap (λ (c : ℕ). c + 1) e
    go false e = e

-- the same largest total where the rows' totals are the same
pub largest_same : (part : ℕ → Bool) (run : Run) (r s : List ℕ) (n : ℕ) → ((i : ℕ) → i < n → (stored_row r i).total ≡ (stored_row s i).total)
    → (totals_of part run r n).largest ≡ (totals_of part run s n).largest
unfolding totals_of
largest_same part run r s zero h = refl
largest_same part run r s (suc n) h = go (part (day_of_step run n)) (largest_same part run r s n (λ i l. h i (omega (arith, l))))
  where
    go : (b : Bool) → (totals_of part run r n).largest ≡ (totals_of part run s n).largest
        → (cond b (with_step run.step (totals_of part run r n) (stored_row r n)) (totals_of part run r n)).largest
        ≡ (cond b (with_step run.step (totals_of part run s n) (stored_row s n)) (totals_of part run s n)).largest
    go true e = unfold with_step in ap₂ float_max e (h n (omega arith))
    go false e = e

-- the sum is that of factor times direct times step over the rows of the part
pub part_sum : (part : ℕ → Bool) (run : Run) (results : List ℕ) (n : ℕ)
    → (totals_of part run results n).sum
    ≡ total (λ (i : ℕ). part (day_of_step run i)) (λ (i : ℕ). ((stored_row results i).factor ⊗ (stored_row results i).direct) ⊗ run.step) n
unfolding totals_of no_totals total
part_sum part run results zero = refl
part_sum part run results (suc n) = go (part (day_of_step run n)) (totals_of part run results n) _ (part_sum part run results n)
  where
    go : (b : Bool) (t : Totals) (s : Float) → t.sum ≡ s → (cond b (with_step run.step t (stored_row results n)) t).sum
        ≡ cond b (s ⊕ ((stored_row results n).factor ⊗ (stored_row results n).direct) ⊗ run.step) s
    go true t s e = unfold with_step with_row in ap (λ (x : Float). x ⊕ ((stored_row results n).factor ⊗ (stored_row results n).direct) ⊗ run.step) e
    go false t s e = e

-- no more steps than there are rows
pub totals_few : (part : ℕ → Bool) (run : Run) (results : List ℕ) (n : ℕ) → (totals_of part run results n).count ≤ n
unfolding totals_of no_totals
totals_few part run results zero = omega arith
totals_few part run results (suc n) = go (part (day_of_step run n)) (totals_of part run results n) (totals_few part run results n)
  where
    go : (b : Bool) (t : Totals) → t.count ≤ n → (cond b (with_step run.step t (stored_row results n)) t).count ≤ suc n
    go true t h = unfold with_step in omega (arith, h)
    go false t h = omega (arith, h)

-- doubles
totals_doubles : (part : ℕ → Bool) (run : Run) (results : List ℕ) (n : ℕ) → Fits (totals_of part run results n).largest × Fits (totals_of part run results n).sum
unfolding totals_of no_totals
totals_doubles part run results zero = (record { holds = nan-fits binary64 }, zero-fits)
totals_doubles part run results (suc n) = go (part (day_of_step run n)) (totals_of part run results n) (totals_doubles part run results n)
  where
    stored_fits : Fits (stored_row results n).total
    stored_fits = unfold stored_row double_at in record { holds = of_bits-fits binary64 _ }

    larger_fits : (l t : Float) → Fits l → Fits t → Fits (float_max l t)
    larger_fits l t f g = unfold float_max max_of2 in either_fits (is_nan l) g (either_fits (is_nan t) f (either_fits (lt t l) f g))

    go : (b : Bool) (t : Totals) → Fits t.largest × Fits t.sum
        → Fits (cond b (with_step run.step t (stored_row results n)) t).largest × Fits (cond b (with_step run.step t (stored_row results n)) t).sum
    go true t f = unfold with_step with_row in (larger_fits t.largest (stored_row results n).total f.0 stored_fits, record { holds = add-fits binary64 _ _ })
    go false t f = f

pub totals_fit : (part : ℕ → Bool) (run : Run) (results : List ℕ) (n : ℕ) → n < 2 ^ 64 → TotalsFit (totals_of part run results n)
totals_fit part run results n h =
    let doubles = totals_doubles part run results n in
    record { count = omega (arith, totals_few part run results n, h); largest = doubles.0; sum = doubles.1 }

-- ---- one row more

module _ (leap : Bool) (run : Run) (results : List ℕ) (i : ℕ) (row : Row) (room : 6 * i + 6 ≤ word_count results) (fits : RowFits row) where
  -- in the parts of its day there is one step more
  pub part_next : (k : ℕ) → totals_at_part leap run (put_row results i row) (suc i) k
      ≡ cond (in_part leap k (day_of_step run i)) (with_step run.step (totals_at_part leap run results i k) row) (totals_at_part leap run results i k)
  unfolding totals_at_part totals_of
  part_next k =
      ap₂ (λ (t : Totals) (r : Row). cond (in_part leap k (day_of_step run i)) (with_step run.step t r) t)
      (totals_same (in_part leap k) run (put_row results i row) results i (row_before results i row)) (row_here results i row room fits)

-- ---- parts of the year

module _ (leap : Bool) (day : ℕ) (h : day < days_in_year leap) where
  pub month_from : days_in_year leap ≤ month_part leap day
  unfolding month_part
  month_from = let r = calendar_right leap day h in omega (arith, r.month_from)

  pub month_to : month_part leap day < totals_count leap
  unfolding month_part totals_count
  month_to = let r = calendar_right leap day h in omega (arith, r.month_from, r.month_to)

  pub day_to : day < totals_count leap
  unfolding totals_count
  day_to = omega (arith, h)

  -- no record is past the 378th
  pub month_few : month_part leap day < 378
  month_few = unfold totals_count in omega (arith, month_to, year_few leap)

  pub day_few : day < 378
  day_few = omega (arith, h, year_few leap)

  pub day_in : in_part leap day day ≡ true
  unfolding in_part
  day_in = ap (λ (b : Bool). b || eqb day (month_part leap day)) (eq-eqb day day refl)

  pub month_in : in_part leap (month_part leap day) day ≡ true
  unfolding in_part
  month_in = ap₂ ◌||◌ (ne_eqb (month_part leap day) day (λ e. omega (arith, e, month_from, h))) (eq-eqb (month_part leap day) (month_part leap day) refl)

  pub no_other : (k : ℕ) → k ≢ day → k ≢ month_part leap day → in_part leap k day ≡ false
  unfolding in_part
  no_other k d m = ap₂ ◌||◌ (ne_eqb k day d) (ne_eqb k (month_part leap day) m)

-- ---- what a list with the totals has

module _ (leap : Bool) (run : Run) (results : List ℕ) (n : ℕ) (totals : List ℕ) where
  -- each record is read there
  pub totals_read : n < 2 ^ 64 → (k : ℕ) → k < totals_count leap → totals_at (with_totals leap run results n totals) k ≡ totals_at_part leap run results n k
  unfolding with_totals totals_at_part
  totals_read h k l = read_among (totals_at_part leap run results n) (totals_count leap) (drop (24 * totals_count leap) totals) k l (totals_fit (in_part leap k) run results n h)

  -- and their bytes stand at the front
  pub totals_front : take (24 * totals_count leap) (with_totals leap run results n totals) ≡ totals_records (totals_at_part leap run results n) (totals_count leap) 0
  unfolding with_totals
  totals_front =
      take_at (totals_records (totals_at_part leap run results n) (totals_count leap) 0) (drop (24 * totals_count leap) totals) (24 * totals_count leap)
      (length_records (totals_at_part leap run results n) (totals_count leap) 0)
