-- Runs of one-hour steps: their sum in watt-hours is that of factor times direct alone. `hourly_runs` (proofs/HourlyLaws.antt) proves
-- what is claimed here.
use Rattle.std.specs.Prelude.{◌≡◌, List, ℕ, zero, suc, ◌+◌, Float, Err, Ok, Result}
use Rattle.objects.specs.declared.answers.Refusal.{Refusal}
use Rattle.jobs.specs.Run.{Ran, ran, on_row, Lent, room_for, run_of, number_for, step_for, count_for, accepted, refused_at}
use Rattle.doubles.specs.Arithmetic.{◌⊕◌, ◌⊗◌, whole}
use Rattle.jobs.specs.declared.answers.Row.{Row}
use Rattle.jobs.specs.Job.{Job}
use Rattle.jobs.specs.JobChecks.{checked}
use Rattle.jobs.specs.Step.{step_at}
use Rattle.jobs.specs.Rows.{put_row}

-- ---- the run whose sum leaves the step out

-- the sum with a row's factor times direct
unfoldable pub with_product : Float → Row → Float
with_product sum row = sum ⊕ row.factor ⊗ row.direct

-- as `run_from`, but for the sum
unfoldable pub products_from : ℕ → Job → ℕ → Float → Float → List ℕ → Ran
products_from zero job i time sum results = ran (accepted i sum) results
products_from (suc n) job i time sum results =
    on_row (step_at job time) i results (λ (row : Row). products_from n job (i + 1) (time ⊕ job.run.step) (with_product sum row) (put_row results i row))

unfoldable pub products_checked : Result ℕ Refusal → Job → List ℕ → Ran
products_checked (Ok n) job results = products_from n job 0 job.run.start (whole 0) results
products_checked (Err refusal) job results = ran (refused_at refusal 0) results

unfoldable pub products_run : Job → Lent → Ran
products_run job lists = products_checked (checked job (room_for job lists)) job lists.results

-- ---- the claim

-- all but the sum is the same
pub record AllButSum (a b : Ran) : Type 0 where
  pub numbers : number_for a.answer ≡ number_for b.answer
  pub steps : step_for a.answer ≡ step_for b.answer
  pub counts : count_for a.answer ≡ count_for b.answer
  pub results : a.results ≡ b.results

-- Whatever the job: with a step of one hour both runs are the same, the sum too, bit for bit; with any step all but the sum is.
pub record Hourly (job : Job) (lists : Lent) : Type 0 where
  pub same_run : job.run.step ≡ whole 1 → (run_of job lists).ran ≡ products_run job lists
  pub all_but_sum : AllButSum (run_of job lists).ran (products_run job lists)

abbrev pub HourlyRuns : Type 0
HourlyRuns = (job : Job) (lists : Lent) → Hourly job lists
