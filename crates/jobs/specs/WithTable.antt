-- Days worked out once: what is claimed of a run that fills a table of days and whose hours read it. `days_worked_out_once`
-- (proofs/WithTableLaws.antt) proves it.
use Rattle.std.specs.Prelude.{◌≡◌, List, ℕ, zero, suc, ◌+◌, ◌/◌, ◌%◌, ◌≤◌, ◌<◌, T, length, get_or, Float, Err, Ok, Result}
use Rattle.jobs.specs.Run.{Ran, ran, on_row, Lent, room_for, run_of, plain_run, accepted}
use Rattle.doubles.specs.Arithmetic.{◌⊕◌, whole}
use Rattle.calendar.specs.Calendar.{days_in_year}
use Rattle.days.specs.declared.Day.{Day}
use Rattle.days.specs.Day.{day_of}
use Rattle.days.specs.Table.{day_at, with_day_table}
use Rattle.sun.specs.declared.site.Site.{Site}
use Rattle.sun.specs.declared.hour.Hour.{Hour}
use Rattle.sun.specs.Site.{leap_year_of}
use Rattle.sun.specs.Hour.{sin_cos_of, time_shift_of}
use Rattle.sun.specs.HourParts.{hour_by}
use Rattle.simulation_time.specs.Steps.{time_at}
use Rattle.simulation_time.specs.Timestep.{current_hour}
use Rattle.objects.specs.declared.answers.Refusal.{Refusal}
use Rattle.jobs.specs.declared.answers.Row.{Row}
use Rattle.jobs.specs.Job.{Job, reading_at}
use Rattle.jobs.specs.JobChecks.{days_fine, totals_fine, checked}
use Rattle.jobs.specs.Step.{irradiance_by_day, job_sectors, shading_at, row_with, step_at}
use Rattle.jobs.specs.Rows.{put_row, with_row}
use Rattle.jobs.specs.Totals.{day_of_step}

-- ---- a step whose hour reads its day from a list

-- the sun of an hour of the year, by a day's values
unfoldable pub sun_by_day : Site → Day → ℕ → Hour
sun_by_day site day hour =
    let shift = time_shift_of site.timezone site.longitude in
    hour_by (sin_cos_of site.latitude) (sin_cos_of day.declination) day.equation_of_time shift (hour % 24)

unfoldable pub step_by_table : List ℕ → Job → Float → Result Row Refusal
step_by_table days job time =
    let day = day_at days (current_hour time / 24) in
    let sun = sun_by_day job.site day (current_hour time) in
    row_with sun (irradiance_by_day job.site job.surface day sun (reading_at job time)) (shading_at job.edition job.surface sun (job_sectors job time) job.window)

-- n steps like that, from the i-th on: as `run_from`, but for the table
unfoldable pub run_by_table : ℕ → List ℕ → Job → ℕ → Float → Float → List ℕ → Ran
run_by_table zero days job i time sum results = ran (accepted i sum) results
run_by_table (suc n) days job i time sum results =
    on_row (step_by_table days job time) i results
    (λ (row : Row). run_by_table n days job (i + 1) (time ⊕ job.run.step) (with_row job.run.step sum row) (put_row results i row))

-- ---- the claim

-- Where the checks have passed and there are n steps: the list of days that the run leaves is the one that was lent, with the table over
-- its front, also where n is 0 or a step is refused. Each step's day is one of the year's, 365 or 366; its record there holds the values
-- by which the step's row is defined. So the step whose hour reads them there is the step without the table, row or refusal, and the
-- run of these steps is the run.
pub record TableFilled (job : Job) (lists : Lent) (n : ℕ) : Type 0 where
  pub filled : (run_of job lists).days ≡ with_day_table lists.days
  pub day_in_year : (i : ℕ) → i < n → day_of_step job.run i < days_in_year (leap_year_of job.site)
  pub day_read : (i : ℕ) → i < n → day_at (run_of job lists).days (day_of_step job.run i) ≡ day_of (day_of_step job.run i + 1)
  pub same_step : (i : ℕ) → i < n → step_by_table (run_of job lists).days job (time_at job.run i) ≡ step_at job (time_at job.run i)
  pub same_run : run_by_table n (run_of job lists).days job 0 job.run.start (whole 0) lists.results ≡ (run_of job lists).ran

-- every result of a run is the one without the table, in either year
pub record WithTable (job : Job) (lists : Lent) : Type 0 where
  pub same_results : T (days_fine lists.days) → T (totals_fine (leap_year_of job.site) lists.totals) → (run_of job lists).ran ≡ plain_run job lists.results
  pub table_filled : (n : ℕ) → checked job (room_for job lists) ≡ Ok n → TableFilled job lists n
  -- a job that is turned down leaves the list as it was
  pub untouched : (r : Refusal) → checked job (room_for job lists) ≡ Err r → (run_of job lists).days ≡ lists.days
  pub same_length : length (run_of job lists).days ≡ length lists.days
  pub bytes_behind : (b : ℕ) → 8784 ≤ b → get_or (run_of job lists).days b 0 ≡ get_or lists.days b 0

abbrev pub DaysWorkedOutOnce : Type 0
DaysWorkedOutOnce = (job : Job) (lists : Lent) → WithTable job lists
