-- Runs of one-hour steps: the claim, proved. A double times 1 is that double, so that the step leaves a product as it is. Assumes
-- nothing.
use Rattle.std.specs.Prelude.{Err, Ok, Result, ℕ}
use Rattle.objects.specs.declared.answers.Refusal.{Refusal}
use mathlib.Core.Path.{◌≡◌, refl, ap, ◌∙◌}
use mathlib.Core.List.{List}
use Prim.Native.Nat.{ℕ, zero, suc, ◌+◌}
use lib.Ieee.{Float, binary64}
use lib.Ieee.Fits.{mul-fits}
use Rattle.doubles.specs.Arithmetic.{◌⊕◌, ◌⊗◌, whole}
use Rattle.doubles.proofs.Exact.{times_one}
use Rattle.jobs.specs.declared.answers.Row.{Row}
use Rattle.jobs.specs.Job.{Job}
use Rattle.jobs.specs.JobChecks.{checked}
use Rattle.jobs.specs.Step.{step_at}
use Rattle.jobs.specs.Rows.{put_row, with_row}
use Rattle.jobs.specs.Run.{Ran, on_row, run_from, run_checked, room_for, run_of, number_for, step_for, count_for}
use Rattle.jobs.specs.Hourly.{with_product, products_from, products_checked, products_run, AllButSum, HourlyRuns}

-- ---- a step of one hour

module _ (job : Job) (hour : job.run.step ≡ whole 1) where
  same_sum : (sum : Float) (row : Row) → with_row job.run.step sum row ≡ with_product sum row
  unfolding with_row with_product
  same_sum sum row =
      ap (λ (x : Float). sum ⊕ x)
      (ap (λ (s : Float). (row.factor ⊗ row.direct) ⊗ s) hour ∙ times_one (record { holds = mul-fits binary64 row.factor row.direct }))

  same_steps : (n i : ℕ) (time sum : Float) (results : List ℕ) → run_from n job i time sum results ≡ products_from n job i time sum results
  unfolding run_from products_from
  same_steps zero i time sum results = refl
  same_steps (suc n) i time sum results =
      let later : Float = time ⊕ job.run.step in
      let on : (row : Row) → run_from n job (i + 1) later (with_row job.run.step sum row) (put_row results i row) ≡ products_from n job (i + 1) later (with_product sum row) (put_row results i row) =
      λ (row : Row).
      ap (λ (s : Float). run_from n job (i + 1) later s (put_row results i row)) (same_sum sum row)
      ∙ same_steps n (i + 1) later (with_product sum row) (put_row results i row) in
      ap (on_row (step_at job time) i results) (λ x (row : Row). on row x)

  same_checked : (c : Result ℕ Refusal) (results : List ℕ) → run_checked c job results ≡ products_checked c job results
  unfolding run_checked products_checked
  same_checked (Ok n) results = same_steps n 0 job.run.start (whole 0) results
  same_checked (Err r) results = refl

-- ---- any step

itself : (a : Ran) → AllButSum a a
itself a = record { numbers = refl; steps = refl; counts = refl; results = refl }

on_row_lem : (f g : Row → Ran) (a : Result Row Refusal) (i : ℕ) (results : List ℕ) → ((row : Row) → AllButSum (f row) (g row)) → AllButSum (on_row a i results f) (on_row a i results g)
unfolding on_row
on_row_lem f g (Err r) i results h = itself _
on_row_lem f g (Ok row) i results h = h row

module _ (job : Job) where
  but_sum : (n i : ℕ) (time s t : Float) (results : List ℕ) → AllButSum (run_from n job i time s results) (products_from n job i time t results)
  unfolding run_from products_from number_for step_for count_for
  but_sum zero i time s t results = record { numbers = refl; steps = refl; counts = refl; results = refl }
  but_sum (suc n) i time s t results =
      let later : Float = time ⊕ job.run.step in
      on_row_lem
      (λ (row : Row). run_from n job (i + 1) later (with_row job.run.step s row) (put_row results i row))
      (λ (row : Row). products_from n job (i + 1) later (with_product t row) (put_row results i row))
      (step_at job time) i results
      (λ row. but_sum n (i + 1) later (with_row job.run.step s row) (with_product t row) (put_row results i row))

  but_sum_checked : (c : Result ℕ Refusal) (results : List ℕ) → AllButSum (run_checked c job results) (products_checked c job results)
  unfolding run_checked products_checked
  but_sum_checked (Ok n) results = but_sum n 0 job.run.start (whole 0) (whole 0) results
  but_sum_checked (Err r) results = itself _

-- ---- the claim

pub hourly_runs : HourlyRuns
unfolding run_of products_run
hourly_runs job lists = record {
  same_run = λ hour. same_checked job hour (checked job (room_for job lists)) lists.results;
  all_but_sum = but_sum_checked job (checked job (room_for job lists)) lists.results;
}
