-- The run: the checks, then step by step.
use Rattle.std.specs.Prelude.{Bool, ◌&&◌, List, ℕ, zero, suc, ◌+◌, Float, Err, Ok, Result}
use Rattle.objects.specs.declared.answers.Refusal.{Refusal}
use Rattle.jobs.specs.declared.answers.Accepted.{Accepted}
use Rattle.jobs.specs.declared.answers.RefusedAt.{RefusedAt}
use Rattle.doubles.specs.Arithmetic.{◌⊕◌, whole}
use Rattle.sun.specs.Site.{leap_year_of}
use Rattle.days.specs.Table.{with_day_table}
use Rattle.simulation_time.specs.declared.run.Run.{Run}
use Rattle.objects.specs.Refusals.{number_of}
use Rattle.jobs.specs.declared.answers.Row.{Row}
use Rattle.jobs.specs.Job.{Job}
use Rattle.jobs.specs.JobChecks.{days_fine, totals_fine, results_fine, checked}
use Rattle.jobs.specs.Step.{step_at}
use Rattle.jobs.specs.Rows.{put_row, with_row}
use Rattle.jobs.specs.Totals.{with_totals}

-- ---- the answer in the specification's numbers

abbrev pub accepted : ℕ → Float → Result Accepted RefusedAt
accepted count sum = Ok (record { count = count; sum = sum })

abbrev pub refused_at : Refusal → ℕ → Result Accepted RefusedAt
refused_at refusal step = Err (record { refusal = refusal; step = step })

-- 0 where the job is accepted
unfoldable pub number_for : Result Accepted RefusedAt → ℕ
number_for (Ok run) = 0
number_for (Err fault) = number_of fault.refusal

unfoldable pub step_for : Result Accepted RefusedAt → ℕ
step_for (Ok run) = 0
step_for (Err fault) = fault.step

-- on every refusal the step count and the sum are 0
unfoldable pub count_for : Result Accepted RefusedAt → ℕ
count_for (Ok run) = run.count
count_for (Err fault) = 0

unfoldable pub sum_for : Result Accepted RefusedAt → Float
sum_for (Ok run) = run.sum
sum_for (Err fault) = whole 0

-- ---- the run

-- what its steps come to: the answer, and the results list as they leave it
pub record Ran : Type 0 where
  pub answer : Result Accepted RefusedAt
  pub results : List ℕ

abbrev pub ran : Result Accepted RefusedAt → List ℕ → Ran
ran answer results = record { answer = answer; results = results }

-- a refused step ends the run with its number and its place; its row and later places stay as they were
unfoldable pub on_row : Result Row Refusal → ℕ → List ℕ → (Row → Ran) → Ran
on_row (Ok row) i results next = next row
on_row (Err refusal) i results next = ran (refused_at refusal i) results

-- n steps, from the i-th at `time` on, with the sum and the results that the steps before have left
unfoldable pub run_from : ℕ → Job → ℕ → Float → Float → List ℕ → Ran
run_from zero job i time sum results = ran (accepted i sum) results
run_from (suc n) job i time sum results =
    on_row (step_at job time) i results (λ (row : Row). run_from n job (i + 1) (time ⊕ job.run.step) (with_row job.run.step sum row) (put_row results i row))

-- a job that the checks turn down has step 0, and its results stay as they were
unfoldable pub run_checked : Result ℕ Refusal → Job → List ℕ → Ran
run_checked (Ok n) job results = run_from n job 0 job.run.start (whole 0) results
run_checked (Err refusal) job results = ran (refused_at refusal 0) results

-- ---- one call of the run

-- the lists that it is lent to store in
pub record Lent : Type 0 where
  pub days : List ℕ
  pub totals : List ℕ
  pub results : List ℕ

abbrev pub lent : List ℕ → List ℕ → List ℕ → Lent
lent days totals results = record { days = days; totals = totals; results = results }

-- what it leaves: what the run comes to, the list of days and the totals
pub record Left : Type 0 where
  pub ran : Ran
  pub days : List ℕ
  pub totals : List ℕ

abbrev pub left : Result Accepted RefusedAt → List ℕ → List ℕ → List ℕ → Left
left answer days totals results = record { ran = ran answer results; days = days; totals = totals }

unfoldable pub room_fine : Bool → Run → Lent → Bool
room_fine leap run lists = days_fine lists.days && (totals_fine leap lists.totals && results_fine run lists.results)

abbrev pub room_for : Job → Lent → Bool
room_for job lists = room_fine (leap_year_of job.site) job.run lists

-- the table of days is filled where the checks have passed, before the first step
unfoldable pub days_left : Result ℕ Refusal → List ℕ → List ℕ
days_left (Ok n) days = with_day_table days
days_left (Err refusal) days = days

-- how many rows are stored: those of the steps before the one that is refused, or of all
unfoldable pub rows_stored : Result Accepted RefusedAt → ℕ
rows_stored (Ok run) = run.count
rows_stored (Err fault) = fault.step

-- The totals are those of the rows that are stored, also where there are none or a later step is refused. A job that the checks turn
-- down leaves the list as it was.
unfoldable pub totals_left : Result ℕ Refusal → Job → Ran → List ℕ → List ℕ
totals_left (Ok n) job ran totals = with_totals (leap_year_of job.site) job.run ran.results (rows_stored ran.answer) totals
totals_left (Err refusal) job ran totals = totals

unfoldable pub run_of : Job → Lent → Left
run_of job lists =
    let checks = checked job (room_for job lists) in
    let ran = run_checked checks job lists.results in
    record { ran = ran; days = days_left checks lists.days; totals = totals_left checks job ran lists.totals }

-- the run without a table: what `run_of` is compared with (`WithTable`)
unfoldable pub plain_run : Job → List ℕ → Ran
plain_run job results = run_checked (checked job (results_fine job.run results)) job results
