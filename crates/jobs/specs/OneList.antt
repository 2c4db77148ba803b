-- An older job, with one list of sectors and no leaf days, is a job with two equal lists: the run of an older job, and what is claimed.
-- `older_jobs` and `leaf_days_change_nothing` (proofs/OneListLaws.antt) prove it.
use Rattle.std.specs.Prelude.{◌≡◌, Bool, ◌&&◌, List, ℕ, zero, suc, ◌+◌, T, Float, Err, Ok, Result}
use Rattle.objects.specs.declared.answers.Refusal.{Refusal}
use Rattle.jobs.specs.Run.{Ran, ran, on_row, Lent, Left, room_for, days_left, totals_left, run_of, accepted, refused_at}
use Rattle.doubles.specs.Arithmetic.{◌⊕◌, whole}
use Rattle.sun.specs.declared.site.Site.{Site}
use Rattle.sun.specs.Site.{site_fine, leaf_days_fine, hours_in_year}
use Rattle.simulation_time.specs.RunChecks.{run_accepted}
use Rattle.objects.specs.declared.answers.Refusal.TheVariants as refusal
use Rattle.fins.specs.Fins.{edition_fine}
use Rattle.objects.specs.Surface.{surface_fine}
use Rattle.object_checks.specs.Checks.{sectors_fine, window_fine}
use Rattle.jobs.specs.declared.answers.Row.{Row}
use Rattle.jobs.specs.Job.{Job, job_of, reading_at}
use Rattle.jobs.specs.JobChecks.{tried, series_checked}
use Rattle.jobs.specs.Step.{step_with}
use Rattle.jobs.specs.Rows.{put_row, with_row}

-- ---- the run with one list; of the job neither its two lists nor its leaf days are looked at

-- 14, then 1 to 7
unfoldable pub one_list_checked : Job → List ℕ → Bool → Result ℕ Refusal
unfolding tried series_checked
one_list_checked job sectors room =
    let site = job.site in
    tried Err (edition_fine job.edition) refusal.Edition
    (tried Err (site_fine site) refusal.Site
    (tried Err (run_accepted (hours_in_year site) job.run) refusal.Run
    (tried Err (surface_fine job.surface) refusal.Surface
    (tried Err (sectors_fine sectors && window_fine job.window) refusal.Object
    (series_checked site.start_day site.time_series_step job.run job.diffuse job.direct job.reflectivity room)))))

-- the same list on every day
unfoldable pub one_list_step : Job → List ℕ → Float → Result Row Refusal
one_list_step job sectors time = step_with job.edition job.site job.surface sectors job.window time (reading_at job time)

-- as `run_from`
unfoldable pub one_list_from : ℕ → Job → List ℕ → ℕ → Float → Float → List ℕ → Ran
one_list_from zero job sectors i time sum results = ran (accepted i sum) results
one_list_from (suc n) job sectors i time sum results =
    on_row (one_list_step job sectors time) i results
    (λ (row : Row). one_list_from n job sectors (i + 1) (time ⊕ job.run.step) (with_row job.run.step sum row) (put_row results i row))

unfoldable pub one_list_ran : Result ℕ Refusal → Job → List ℕ → List ℕ → Ran
one_list_ran (Ok n) job sectors results = one_list_from n job sectors 0 job.run.start (whole 0) results
one_list_ran (Err refusal) job sectors results = ran (refused_at refusal 0) results

-- as `run_of`
unfoldable pub one_list_run : Job → List ℕ → Lent → Left
one_list_run job sectors lists =
    let checks = one_list_checked job sectors (room_for job lists) in
    let ran = one_list_ran checks job sectors lists.results in
    record { ran = ran; days = days_left checks lists.days; totals = totals_left checks job ran lists.totals }

-- ---- the claims

-- With two equal lists and any accepted leaf days: the answer and all that the run leaves, totals and table of days too.
abbrev pub OlderJobs : Type 0
OlderJobs =
    (job : Job) (lists : Lent) (sectors : List ℕ) → job.summer ≡ sectors → job.winter ≡ sectors
    → T (leaf_days_fine job.site) → run_of job lists ≡ one_list_run job sectors lists

-- the job with other leaf days
unfoldable pub with_leaf_days : Job → ℕ → ℕ → Job
with_leaf_days job first last =
    let site = job.site in
    let other : Site = record {
      latitude = site.latitude;
      longitude = site.longitude;
      timezone = site.timezone;
      start_day = site.start_day;
      time_series_step = site.time_series_step;
      leap_year = site.leap_year;
      direct_beam_conversion = site.direct_beam_conversion;
      first_leaf_day = first;
      last_leaf_day = last;
    } in
    job_of job.edition other job.run job.surface job.diffuse job.direct job.reflectivity job.summer job.winter job.window

-- so with equal lists leaf days change nothing
abbrev pub LeafDaysChangeNothing : Type 0
LeafDaysChangeNothing =
    (job : Job) (lists : Lent) → job.summer ≡ job.winter → (first last : ℕ) → T (leaf_days_fine job.site) → T (leaf_days_fine (with_leaf_days job first last).site)
    → run_of (with_leaf_days job first last) lists ≡ run_of job lists
