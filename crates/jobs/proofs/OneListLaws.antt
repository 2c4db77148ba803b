-- An older job is a job with two equal lists: the claim, proved. Assumes nothing.
use Rattle.std.specs.Prelude.{Err, Ok, Result, ℕ}
use Rattle.objects.specs.declared.answers.Refusal.{Refusal}
use mathlib.Core.Path.{◌≡◌, refl, sym, ap, ◌∙◌, subst}
use mathlib.Core.Bool.{Bool, true, false, ◌&&◌}
use mathlib.Core.List.{List}
use Prim.Native.Nat.{ℕ, zero, suc, ◌+◌, ◌/◌}
use lib.Dec.{T}
use lib.Ieee.{Float}
use lib.Ieee.Bits.{is_true}
use Rattle.doubles.specs.Arithmetic.{◌⊕◌, whole}
use Rattle.sun.specs.Site.{site_fine, leaf_days_fine, hours_in_year}
use Rattle.sun.specs.Hour.{hour_of}
use Rattle.simulation_time.specs.Timestep.{current_hour}
use Rattle.object_checks.specs.Checks.{sectors_fine, window_fine}
use Rattle.seasons.proofs.Parts.{all_whole, one_list}
use Rattle.jobs.specs.declared.answers.Row.{Row}
use Rattle.jobs.specs.Job.{Job, index_at, reading_at}
use Rattle.jobs.specs.JobChecks.{tried, checked}
use Rattle.jobs.specs.Step.{sun_at, irradiance_by_day, irradiance_at, sectors_at, job_sectors, step_with, step_at}
use Rattle.jobs.specs.Rows.{put_row, with_row}
use Rattle.jobs.specs.Run.{Ran, on_row, run_from, run_checked, Lent, room_for, days_left, totals_left, run_of}
use Rattle.jobs.specs.OneList.{one_list_checked, one_list_step, one_list_from, one_list_ran, one_list_run, OlderJobs, with_leaf_days, LeafDaysChangeNothing}
use Rattle.jobs.proofs.PassedChecks.{passed}

twice : (b c : Bool) → b && b && c ≡ b && c
twice true c = refl
twice false c = refl

module _ (job : Job) (lists : Lent) (sectors : List ℕ) (s : job.summer ≡ sectors) (w : job.winter ≡ sectors) where
  -- the checks are the same where the leaf days are accepted
  same_checks : T (leaf_days_fine job.site) → (room : Bool) → checked job room ≡ one_list_checked job sectors room
  unfolding checked one_list_checked tried
  same_checks t room = rw (is_true (leaf_days_fine job.site) t, s, w, twice (sectors_fine sectors) (window_fine job.window)) refl

  -- on every day the accepted list is the one
  same_sectors : T (sectors_fine sectors) → (time : Float) → job_sectors job time ≡ sectors
  unfolding sectors_at
  same_sectors t time = rw (s, w) (one_list sectors _ _ (current_hour time / 24) ∙ all_whole sectors t)

  same_step : T (sectors_fine sectors) → (time : Float) → step_at job time ≡ one_list_step job sectors time
  unfolding step_at one_list_step
  same_step t time = rw (same_sectors t time) refl

  same_steps : T (sectors_fine sectors) → (n i : ℕ) (time sum : Float) (results : List ℕ) → run_from n job i time sum results ≡ one_list_from n job sectors i time sum results
  unfolding run_from one_list_from
  same_steps t zero i time sum results = refl
  same_steps t (suc n) i time sum results =
      let later : Float = time ⊕ job.run.step in
      let next : Row → Ran = λ (row : Row). run_from n job (i + 1) later (with_row job.run.step sum row) (put_row results i row) in
      ap (λ (a : Result Row Refusal). on_row a i results next) (same_step t time)
      ∙ ap (on_row (one_list_step job sectors time) i results) (λ x (row : Row). same_steps t n (i + 1) later (with_row job.run.step sum row) (put_row results i row) x)

  same_ran : (c : Result ℕ Refusal) → checked job (room_for job lists) ≡ c → run_checked c job lists.results ≡ one_list_ran c job sectors lists.results
  unfolding run_checked one_list_ran
  same_ran (Err r) e = refl
  same_ran (Ok n) e =
      same_steps (subst (λ (l : List ℕ). T (sectors_fine l)) s (passed job (room_for job lists) n e).0.summer_fine) n 0 job.run.start (whole 0) lists.results

pub older_jobs : OlderJobs
unfolding run_of one_list_run
older_jobs job lists sectors s w t =
    let room = room_for job lists in
    let checks = same_checks job lists sectors s w t room in
    let ran = same_ran job lists sectors s w (checked job room) refl ∙ ap (λ (c : Result ℕ Refusal). one_list_ran c job sectors lists.results) checks in
    λ x. record { ran = ran x; days = days_left (checks x) lists.days; totals = totals_left (checks x) job (ran x) lists.totals }

-- ---- the run with one list looks at no leaf day

module _ (job : Job) (first last : ℕ) (sectors : List ℕ) where
  abbrev other : Job
  other = with_leaf_days job first last

  step_by_other : (time : Float) → one_list_step other sectors time ≡ one_list_step job sectors time
  unfolding with_leaf_days one_list_step step_with sun_at hour_of irradiance_at irradiance_by_day reading_at index_at
  step_by_other time = refl

  steps_by_other : (n i : ℕ) (time sum : Float) (results : List ℕ) → one_list_from n other sectors i time sum results ≡ one_list_from n job sectors i time sum results
  unfolding one_list_from with_leaf_days
  steps_by_other zero i time sum results = refl
  steps_by_other (suc n) i time sum results =
      let later : Float = time ⊕ job.run.step in
      let next : Row → Ran = λ (row : Row). one_list_from n other sectors (i + 1) later (with_row job.run.step sum row) (put_row results i row) in
      ap (λ (a : Result Row Refusal). on_row a i results next) (step_by_other time)
      ∙ ap (on_row (one_list_step job sectors time) i results) (λ x (row : Row). steps_by_other n (i + 1) later (with_row job.run.step sum row) (put_row results i row) x)

  ran_by_other : (c : Result ℕ Refusal) (results : List ℕ) → one_list_ran c other sectors results ≡ one_list_ran c job sectors results
  unfolding one_list_ran with_leaf_days
  ran_by_other (Err r) results = refl
  ran_by_other (Ok n) results = steps_by_other n 0 job.run.start (whole 0) results

  checks_by_other : (lists : Lent) → one_list_checked other sectors (room_for other lists) ≡ one_list_checked job sectors (room_for job lists)
  unfolding one_list_checked site_fine hours_in_year with_leaf_days
  checks_by_other lists = refl

  totals_by_other : (c : Result ℕ Refusal) (ran : Ran) (totals : List ℕ) → totals_left c other ran totals ≡ totals_left c job ran totals
  unfolding totals_left with_leaf_days
  totals_by_other (Err r) ran totals = refl
  totals_by_other (Ok n) ran totals = refl

  run_by_other : (lists : Lent) → one_list_run other sectors lists ≡ one_list_run job sectors lists
  unfolding one_list_run
  run_by_other lists =
      let checks = checks_by_other lists in
      let ran = (λ x. one_list_ran (checks x) other sectors lists.results) ∙ ran_by_other (one_list_checked job sectors (room_for job lists)) lists.results in
      let totals = (λ x. totals_left (checks x) other (ran x) lists.totals) ∙ totals_by_other (one_list_checked job sectors (room_for job lists)) _ lists.totals in
      λ x. record { ran = ran x; days = days_left (checks x) lists.days; totals = totals x }

pub leaf_days_change_nothing : LeafDaysChangeNothing
leaf_days_change_nothing job lists e first last t u =
    older_jobs (with_leaf_days job first last) lists job.winter (unfold with_leaf_days in e) (unfold with_leaf_days in refl) u
    ∙ run_by_other job first last job.winter lists
    ∙ sym (older_jobs job lists job.winter e refl t)
