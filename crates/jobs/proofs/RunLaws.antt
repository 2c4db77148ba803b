-- What a run comes to: the rows of the steps before the one that is refused, or of all; and of an accepted run, that every step has a
-- row, which its results hold, and that its sum is that of factor times direct times step over them. Assumes nothing.
use Rattle.std.specs.Prelude.{Err, Ok, Result, ℕ}
use Rattle.jobs.specs.Run.{Ran, ran, on_row, run_from, run_checked, Lent, room_for, rows_stored, totals_left, run_of, number_for, accepted, refused_at}
use mathlib.Core.Path.{◌≡◌, refl, sym, ap, ◌∙◌, subst}
use mathlib.Core.List.{List}
use Prim.Native.Nat.{ℕ, zero, suc, ◌+◌, ◌*◌, ◌≤◌, ◌<◌}
use native.Mathlib.Numerals.{add-one}
use native.Mathlib.Decide.{dec_lt}
use native.Mathlib.Omega.{arith}
use borrow.Author.Count.{below_more}
use lib.ListN.{length, get_or}
use lib.Ieee.{Float}
use Rattle.doubles.specs.Arithmetic.{◌⊕◌, whole}
use Rattle.words.specs.Words.{word_count}
use Rattle.sun.specs.Site.{leap_year_of}
use Rattle.simulation_time.specs.Steps.{step_count, time_at}
use Rattle.objects.specs.declared.answers.Refusal.{Refusal}
use Rattle.objects.specs.declared.answers.Refusal.TheVariants as refusal
use Rattle.objects.specs.Refusals.{number_of}
use Rattle.jobs.specs.declared.answers.Row.{Row}
use Rattle.jobs.specs.Job.{Job}
use Rattle.jobs.specs.JobChecks.{checked}
use Rattle.jobs.specs.Step.{step_at}
use Rattle.jobs.specs.Rows.{put_row, with_row}
use Rattle.jobs.specs.Totals.{with_totals}
use Rattle.jobs.proofs.RowStores.{Holding, length_put_row, word_count_put_row, byte_put_row, stored_row_lem, kept_row}
use Rattle.jobs.proofs.StepRows.{row_of, step_row, row_fits}
use Rattle.jobs.proofs.PassedChecks.{Passed, passed, rows_fit}

-- ---- one step of the run, for a loop

module _ (job : Job) (i : ℕ) (time sum : Float) (results : List ℕ) where
  pub run_ended : run_from 0 job i time sum results ≡ ran (accepted i sum) results
  unfolding run_from
  run_ended = refl

  module _ (n : ℕ) where
    pub run_refused : (r : Refusal) → step_at job time ≡ Err r → run_from (suc n) job i time sum results ≡ ran (refused_at r i) results
    unfolding run_from on_row
    run_refused r e = rw e

    pub run_onward : (row : Row) → step_at job time ≡ Ok row
        → run_from (suc n) job i time sum results ≡ run_from n job (i + 1) (time ⊕ job.run.step) (with_row job.run.step sum row) (put_row results i row)
    unfolding run_from on_row
    run_onward row e = rw e

-- ---- the steps of a job, whatever its checks say

-- the i-th step's row, where it has one
unfoldable pub row_at : Job → ℕ → Row
row_at job i = row_of (step_at job (time_at job.run i))

-- it has one
abbrev pub HasRow : Job → ℕ → Type 0
HasRow job i = step_at job (time_at job.run i) ≡ Ok (row_at job i)

-- the results with the first n rows
unfoldable pub with_rows : Job → ℕ → List ℕ → List ℕ
with_rows job zero results = results
with_rows job (suc n) results = put_row (with_rows job n results) n (row_at job n)

-- the sum over the first n rows
unfoldable pub sum_to : Job → ℕ → Float
sum_to job zero = whole 0
sum_to job (suc n) = with_row job.run.step (sum_to job n) (row_at job n)

-- ---- where a run ends

-- `n` steps done: all have rows, or one is refused, and the rows before it are stored
pub data Outcome (job : Job) (results : List ℕ) (n : ℕ) : Ran → Type 0 where
  all_rows : ((j : ℕ) → j < n → HasRow job j) → Outcome job results n (ran (accepted n (sum_to job n)) (with_rows job n results))
  cut_short : (k : ℕ) (r : Refusal) → k < n → ((j : ℕ) → j < k → HasRow job j) → step_at job (time_at job.run k) ≡ Err r
      → Outcome job results n (ran (refused_at r k) (with_rows job k results))

module _ (job : Job) (results : List ℕ) where
  from_step : (n i : ℕ) → ((j : ℕ) → j < i → HasRow job j)
      → Outcome job results (i + n) (run_from n job i (time_at job.run i) (sum_to job i) (with_rows job i results))
  unfolding run_from row_at with_rows sum_to time_at row_of
  from_step zero i h = let e : i + 0 ≡ i = omega arith in rw e (all_rows h)
  from_step (suc n) i h = go (step_at job (time_at job.run i)) refl (λ d. from_step n (suc i) (below_next i h d))
    where
      below_next : (i : ℕ) → ((j : ℕ) → j < i → HasRow job j) → HasRow job i → (j : ℕ) → j < suc i → HasRow job j
      below_next i h d = rw (← add-one i) (below_more (HasRow job) i h d)

      after : Row → Ran
      after row = run_from n job (i + 1) (time_at job.run i ⊕ job.run.step) (with_row job.run.step (sum_to job i) row) (put_row (with_rows job i results) i row)

      go : (a : Result Row Refusal) → step_at job (time_at job.run i) ≡ a
          → (HasRow job i → Outcome job results (suc i + n) (run_from n job (suc i) (time_at job.run (suc i)) (sum_to job (suc i)) (with_rows job (suc i) results)))
          → Outcome job results (i + suc n) (on_row a i (with_rows job i results) after)
      go (Err r) e next = unfold on_row in cut_short i r (omega arith) h e
      go (Ok row) e next = unfold on_row in
          let same : row ≡ row_at job i = sym (ap row_of e) in
          let k : suc i + n ≡ i + suc n = omega arith in
          rw (add-one i, ← k, same) (next (e ∙ ap Ok same))

  -- a run whose checks pass
  from_start : (n : ℕ) → Outcome job results n (run_from n job 0 job.run.start (whole 0) results)
  unfolding time_at sum_to with_rows
  from_start n = let e : 0 + n ≡ n = omega arith in rw e at (from_step n 0 (λ j h. absurd (omega arith)))

-- any run: turned down by the checks, or where its steps have brought it
pub data Finished (job : Job) (lists : Lent) : Ran → Type 0 where
  turned_down : (r : Refusal) → checked job (room_for job lists) ≡ Err r → Finished job lists (ran (refused_at r 0) lists.results)
  stepped : {run : Ran} → Passed job (room_for job lists) → checked job (room_for job lists) ≡ Ok (step_count job.run) → Outcome job lists.results (step_count job.run) run → Finished job lists run

pub finished : (job : Job) (lists : Lent) → Finished job lists (run_of job lists).ran
unfolding run_of
finished job lists = go (checked job (room_for job lists)) refl
  where
    go : (c : Result ℕ Refusal) → checked job (room_for job lists) ≡ c → Finished job lists (run_checked c job lists.results)
    go (Err r) e = unfold run_checked in turned_down r e
    go (Ok n) e = unfold run_checked in
        let p = passed job (room_for job lists) n e in
        let results = lists.results in
        stepped p.0 (e ∙ ap Ok p.1) (subst (λ (m : ℕ). Outcome job results m (run_from n job 0 job.run.start (whole 0) results)) p.1 (from_start job results n))

-- ---- what a run leaves of the results list

module _ (job : Job) (results : List ℕ) where
  pub length_with_rows : (n : ℕ) → length (with_rows job n results) ≡ length results
  unfolding with_rows
  length_with_rows zero = refl
  length_with_rows (suc n) = length_put_row (with_rows job n results) n (row_at job n) ∙ length_with_rows n

  pub word_count_with_rows : (n : ℕ) → word_count (with_rows job n results) ≡ word_count results
  unfolding with_rows
  word_count_with_rows zero = refl
  word_count_with_rows (suc n) = word_count_put_row (with_rows job n results) n (row_at job n) ∙ word_count_with_rows n

  -- a byte past the n rows stays as it was
  byte_with_rows : (n b : ℕ) → 48 * n ≤ b → get_or (with_rows job n results) b 0 ≡ get_or results b 0
  unfolding with_rows
  byte_with_rows zero b h = refl
  byte_with_rows (suc n) b h = byte_put_row (with_rows job n results) n (row_at job n) b (omega arith) ∙ byte_with_rows n b (omega arith)

  -- each of the n rows is read back
  rows_held : (n i : ℕ) → 6 * n ≤ word_count results → ((j : ℕ) → j < n → HasRow job j) → i < n → Holding (with_rows job n results) i (row_at job i)
  unfolding with_rows
  rows_held zero i w h l = absurd (omega arith)
  rows_held (suc n) i w h l =
      elim (dec_lt i n) [
        | yes g ↦ kept_row (with_rows job n results) n (row_at job n) i (row_at job i) (omega arith) (rows_held n i (omega arith) (λ j k. h j (omega arith)) g)
        | no g ↦
            let e : n ≡ i = omega arith in
            subst (λ (m : ℕ). Holding (put_row (with_rows job n results) n (row_at job n)) m (row_at job m)) e
            (stored_row_lem (with_rows job n results) n (row_at job n) (rw word_count_with_rows (omega arith))
            (row_fits (step_row job (time_at job.run n) (row_at job n) (h n (omega arith)))))
      ]

module _ (job : Job) (lists : Lent) where
  pub rows_stored_lem : (run_of job lists).ran.results ≡ with_rows job (rows_stored (run_of job lists).ran.answer) lists.results
  rows_stored_lem = go (finished job lists)
    where
      by_outcome : {n : ℕ} {run : Ran} → Outcome job lists.results n run → run.results ≡ with_rows job (rows_stored run.answer) lists.results
      by_outcome (all_rows h) = unfold rows_stored in refl
      by_outcome (cut_short k r l h e) = unfold rows_stored in refl

      go : {run : Ran} → Finished job lists run → run.results ≡ with_rows job (rows_stored run.answer) lists.results
      go (turned_down r e) = unfold rows_stored with_rows in refl
      go (stepped p c o) = by_outcome o

  -- the list is as long as it was
  pub run_length : length (run_of job lists).ran.results ≡ length lists.results
  run_length = ap length rows_stored_lem ∙ length_with_rows job lists.results (rows_stored (run_of job lists).ran.answer)

  -- bytes past the rows that are stored stay as they were: those of a refused step and of later ones, and all past the last step
  pub run_untouched : (b : ℕ) → 48 * rows_stored (run_of job lists).ran.answer ≤ b → get_or (run_of job lists).ran.results b 0 ≡ get_or lists.results b 0
  run_untouched b h = ap (λ (l : List ℕ). get_or l b 0) rows_stored_lem ∙ byte_with_rows job lists.results (rows_stored (run_of job lists).ran.answer) b h

-- a row that is stored
pub record Stored (job : Job) (results : List ℕ) (i : ℕ) : Type 0 where
  pub has_row : HasRow job i
  pub held : Holding results i (row_at job i)

-- every row before the place where it ends is its step's, also where a later step is refused
pub run_rows : (job : Job) (lists : Lent) (i : ℕ) → i < rows_stored (run_of job lists).ran.answer → Stored job (run_of job lists).ran.results i
run_rows job lists i l = go (finished job lists) l
  where
    results : List ℕ
    results = lists.results

    stored : (n : ℕ) → 6 * n ≤ word_count results → ((j : ℕ) → j < n → HasRow job j) → i < n → Stored job (with_rows job n results) i
    stored n w h l = record { has_row = h i l; held = rows_held job results n i w h l }

    by_outcome : {run : Ran} → Passed job (room_for job lists) → Outcome job results (step_count job.run) run → i < rows_stored run.answer → Stored job run.results i
    by_outcome p (all_rows h) l = unfold rows_stored in stored (step_count job.run) (rows_fit job lists p) h l
    by_outcome p (cut_short k r m h e) l = unfold rows_stored in let w = rows_fit job lists p in stored k (omega arith) h l

    go : {run : Ran} → Finished job lists run → i < rows_stored run.answer → Stored job run.results i
    go (turned_down r e) l = unfold rows_stored in absurd (omega arith)
    go (stepped p c o) l = by_outcome p o l

-- ---- an accepted run

number_above : (r : Refusal) → 0 < number_of r
unfolding number_of
number_above refusal.Site = omega arith
number_above refusal.Run = omega arith
number_above refusal.Surface = omega arith
number_above refusal.Object = omega arith
number_above refusal.Series = omega arith
number_above refusal.Reading = omega arith
number_above refusal.Results = omega arith
number_above refusal.Gap = omega arith
number_above refusal.Turned = omega arith
number_above refusal.NoSector = omega arith
number_above refusal.Reveal = omega arith
number_above refusal.Line = omega arith
number_above refusal.Edition = omega arith
number_above refusal.LeafDay = omega arith

-- its steps all have rows, and it comes to this
unfoldable pub done : Job → List ℕ → Ran
done job results = let n = step_count job.run in ran (accepted n (sum_to job n)) (with_rows job n results)

pub record AcceptedRun (job : Job) (lists : Lent) : Type 0 where
  pub checks : Passed job (room_for job lists)
  pub steps : checked job (room_for job lists) ≡ Ok (step_count job.run)
  pub has_rows : (i : ℕ) → i < step_count job.run → HasRow job i
  pub comes_to : (run_of job lists).ran ≡ done job lists.results

pub accepted_run : (job : Job) (lists : Lent) → number_for (run_of job lists).ran.answer ≡ 0 → AcceptedRun job lists
accepted_run job lists e = go refl (finished job lists) e
  where
    refused : (r : Refusal) (i : ℕ) → number_for (refused_at r i) ≡ 0 → ⊥
    refused r i e = unfold number_for in let h = number_above r in omega arith

    by_outcome : {run : Ran} → (run_of job lists).ran ≡ run → Passed job (room_for job lists) → checked job (room_for job lists) ≡ Ok (step_count job.run)
        → Outcome job lists.results (step_count job.run) run → number_for run.answer ≡ 0 → AcceptedRun job lists
    by_outcome k p c (all_rows h) e = record { checks = p; steps = c; has_rows = h; comes_to = unfold done in k }
    by_outcome k p c (cut_short i r l h s) e = absurd (refused r i e)

    go : {run : Ran} → (run_of job lists).ran ≡ run → Finished job lists run → number_for run.answer ≡ 0 → AcceptedRun job lists
    go k (turned_down r c) e = absurd (refused r 0 e)
    go k (stepped p c o) e = by_outcome k p c o e

-- its results hold every row
pub done_rows : {job : Job} {lists : Lent} → AcceptedRun job lists → (i : ℕ) → i < step_count job.run → Holding (done job lists.results).results i (row_at job i)
unfolding done
done_rows {job} {lists} a i h = rows_held job lists.results (step_count job.run) i (rows_fit job lists a.checks) a.has_rows h

-- ---- totals

-- those of the rows that are stored, where the checks have passed
pub totals_stepped : (job : Job) (lists : Lent) (n : ℕ) → checked job (room_for job lists) ≡ Ok n
    → (run_of job lists).totals
    ≡ with_totals (leap_year_of job.site) job.run (run_of job lists).ran.results (rows_stored (run_of job lists).ran.answer) lists.totals
unfolding run_of totals_left
totals_stepped job lists n e = ap (λ (c : Result ℕ Refusal). totals_left c job (run_checked (checked job (room_for job lists)) job lists.results) lists.totals) e
