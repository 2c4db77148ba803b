-- What a job has that passes the checks before the first step. Assumes nothing.
use Rattle.std.specs.Prelude.{Err, Ok, Result, ℕ}
use mathlib.Core.Path.{◌≡◌, sym, ap, subst}
use mathlib.Core.Bool.{Bool, true, false, cond, ◌&&◌}
use mathlib.Core.List.{List, [], ◌∷◌}
use Prim.Native.Nat.{ℕ, zero, suc, ◌*◌, ◌/◌, ◌≤◌, ◌<◌}
use native.Mathlib.Omega.{arith}
use borrow.Author.Tests.{leb-true}
use lib.Dec.{T, eqb, ltb→lt}
use lib.ListN.{length, get_or}
use lib.Ieee.{Float}
use lib.Ieee.Bits.{is_true}
use lib.Ieee.Fits.{and_l, and_r}
use Rattle.doubles.specs.Arithmetic.{whole}
use Rattle.doubles.specs.Order.{InRange}
use Rattle.doubles.specs.Ranges.{within}
use Rattle.doubles.proofs.Ranges.{both_of, within_range}
use Rattle.words.specs.Words.{word_count}
use Rattle.calendar.specs.Calendar.{days_in_year}
use Rattle.sun.specs.declared.site.Site.{Site}
use Rattle.sun.specs.Site.{site_fine, leaf_days_fine, leap_year_of, hours_in_year}
use Rattle.simulation_time.specs.declared.run.Run.{Run}
use Rattle.simulation_time.specs.Steps.{run_fine, step_count, time_at, times, at_all}
use Rattle.simulation_time.specs.Timestep.{current_hour}
use Rattle.simulation_time.specs.RunChecks.{hour_fine, hours_fine, run_accepted}
use Rattle.simulation_time.proofs.Times.{times-length, times_at}
use Rattle.simulation_time.proofs.Accepted.{StepLength, step_length}
use Rattle.objects.specs.declared.answers.Refusal.{Refusal}
use Rattle.objects.specs.declared.answers.Refusal.TheVariants as refusal
use Rattle.fins.specs.Fins.{edition_fine}
use Rattle.objects.specs.Surface.{surface_fine}
use Rattle.object_checks.specs.Checks.{sectors_fine, window_fine}
use Rattle.objects.specs.Records.{window_objects_of}
use Rattle.shading_laws.specs.Premises.{AcceptedSurface, Doubles, AcceptedNear}
use Rattle.shading_laws.proofs.Accepted.{accepted_surface, accepted_near}
use Rattle.weather.specs.declared.Reading.{Reading}
use Rattle.weather.specs.Weather.{reading_fine}
use Rattle.jobs.specs.Job.{Job, index_at, reading_at}
use Rattle.jobs.specs.JobChecks.{indices_fine, readings_fine, days_fine, totals_fine, results_fine, tried, checked}
use Rattle.jobs.specs.Totals.{day_of_step, totals_count}
use Rattle.jobs.specs.Run.{Lent, room_fine, room_for}

-- ---- the tests, one by one

passes : Result ℕ Refusal → Bool
passes (Ok n) = true
passes (Err r) = false

pub not_passed : {A : Type 0} {r : Refusal} {n : ℕ} → Err r ≡ Ok n → A
unfolding passes
not_passed e = absurd (subst T (sym (ap passes e)) tt)

-- the number of steps where there is one
unfoldable steps_in : Result ℕ Refusal → ℕ
steps_in (Ok n) = n
steps_in (Err r) = 0

passed_test : (b : Bool) (r : Refusal) (next : Result ℕ Refusal) (n : ℕ) → tried Err b r next ≡ Ok n → T b × (next ≡ Ok n)
unfolding tried
passed_test true r next n e = (tt, e)
passed_test false r next n e = not_passed e

pub record Passed (job : Job) (room : Bool) : Type 0 where
  pub site_fine_lem : T (site_fine job.site)
  pub run_fine_lem : T (run_accepted (hours_in_year job.site) job.run)
  pub surface_fine_lem : T (surface_fine job.surface)
  pub summer_fine : T (sectors_fine job.summer)
  pub winter_fine : T (sectors_fine job.winter)
  pub window_fine_lem : T (window_fine job.window)
  pub readings_fine_lem : T (at_all (λ (time : Float). reading_fine (reading_at job time)) (times job.run))
  pub room_fine_lem : T room

pub passed : (job : Job) (room : Bool) (n : ℕ) → checked job room ≡ Ok n → Passed job room × (n ≡ step_count job.run)
unfolding checked steps_in indices_fine readings_fine reading_at index_at
passed job room n e =
    let p0 = passed_test (edition_fine job.edition) refusal.Edition _ n e in
    let p1 = passed_test (site_fine job.site) refusal.Site _ n p0.1 in
    let p15 = passed_test (leaf_days_fine job.site) refusal.LeafDay _ n p1.1 in
    let p2 = passed_test (run_accepted (hours_in_year job.site) job.run) refusal.Run _ n p15.1 in
    let p3 = passed_test (surface_fine job.surface) refusal.Surface _ n p2.1 in
    let p4 = passed_test (sectors_fine job.summer && sectors_fine job.winter && window_fine job.window) refusal.Object _ n p3.1 in
    let sectors = and_l (sectors_fine job.summer && sectors_fine job.winter) (window_fine job.window) p4.0 in
    let site = job.site in
    let indices = indices_fine site.start_day site.time_series_step job.diffuse job.direct job.reflectivity (times job.run) in
    let p5 = passed_test indices refusal.Series _ n p4.1 in
    let p6 = passed_test (at_all (λ (time : Float). reading_fine (reading_at job time)) (times job.run)) refusal.Reading _ n p5.1 in
    let p7 = passed_test room refusal.Results _ n p6.1 in (
      record {
        site_fine_lem = p1.0;
        run_fine_lem = p2.0;
        surface_fine_lem = p3.0;
        summer_fine = and_l (sectors_fine job.summer) (sectors_fine job.winter) sectors;
        winter_fine = and_r (sectors_fine job.summer) (sectors_fine job.winter) sectors;
        window_fine_lem = and_r (sectors_fine job.summer && sectors_fine job.winter) (window_fine job.window) p4.0;
        readings_fine_lem = p6.0;
        room_fine_lem = p7.0;
      },
      sym (ap steps_in p7.1),
    )

-- ---- what they give

-- a test that passes at every time passes at each
all_pass : (test : Float → Bool) (xs : List Float) (i : ℕ) (d : Float) → T (at_all test xs) → i < length xs → T (test (get_or xs i d))
unfolding at_all
all_pass test [] i d t h = absurd (omega arith)
all_pass test (x ∷ xs) zero d t h = and_l (test x) (at_all test xs) t
all_pass test (x ∷ xs) (suc i) d t h = all_pass test xs i d (and_r (test x) (at_all test xs) t) (omega arith)

-- the values of an accepted reading
pub record ReadingRange (r : Reading) : Type 0 where
  pub diffuse : InRange (whole 0) (whole 10000) r.diffuse
  pub direct : InRange (whole 0) (whole 10000) r.direct
  pub reflectivity : InRange (whole 0) (whole 1) r.reflectivity

pub accepted_reading : (r : Reading) → T (reading_fine r) → ReadingRange r
unfolding reading_fine
accepted_reading r t =
    let a = within (whole 0) (whole 10000) r.diffuse in
    let b = within (whole 0) (whole 10000) r.direct in
    let c = within (whole 0) (whole 1) r.reflectivity in
    let p = both_of (a && b) c t in
    let q = both_of a b p.0 in
    record {
      diffuse = within_range (whole 0) (whole 10000) r.diffuse q.0;
      direct = within_range (whole 0) (whole 10000) r.direct q.1;
      reflectivity = within_range (whole 0) (whole 1) r.reflectivity p.1;
    }

module _ (job : Job) (lists : Lent) (p : Passed job (room_for job lists)) where
  abbrev totals : Bool
  totals = totals_fine (leap_year_of job.site) lists.totals

  abbrev results : Bool
  results = results_fine job.run lists.results

  -- there is room for the table of days
  pub days_fit : 8784 ≤ length lists.days
  unfolding room_fine days_fine
  days_fit = leb-true 8784 (length lists.days) (is_true _ (and_l (days_fine lists.days) (totals && results) p.room_fine_lem))

  -- for the totals of the year
  pub totals_fit : 24 * totals_count (leap_year_of job.site) ≤ length lists.totals
  unfolding room_fine totals_fine
  totals_fit =
      leb-true (24 * totals_count (leap_year_of job.site)) (length lists.totals)
      (is_true _ (and_l totals results (and_r (days_fine lists.days) (totals && results) p.room_fine_lem)))

  -- and for every row
  pub rows_fit : 6 * step_count job.run ≤ word_count lists.results
  unfolding room_fine results_fine
  rows_fit =
      leb-true (6 * step_count job.run) (word_count lists.results)
      (is_true _ (and_r totals results (and_r (days_fine lists.days) (totals && results) p.room_fine_lem)))

pub year_length : (site : Site) → hours_in_year site ≤ 8784
unfolding hours_in_year
year_length site = go (eqb site.leap_year 1)
  where
    go : (b : Bool) → cond b 8784 8760 ≤ 8784
    go true = omega arith
    go false = omega arith

-- every step's hour is one of the year's
hour_in_year : (site : Site) (run : Run) → T (run_accepted (hours_in_year site) run) → (i : ℕ) → i < step_count run → current_hour (time_at run i) < hours_in_year site
unfolding run_accepted hours_fine hour_fine
hour_in_year site run t i h =
    let hours = hours_in_year site in
    let fine : T (at_all (hour_fine hours) (times run)) = and_r (run_fine run) (hours_fine hours run) t in
    let at : T (hour_fine hours (time_at run i)) = subst (λ (time : Float). T (hour_fine hours time)) (times_at run i (whole 0) h) (all_pass (hour_fine hours) (times run) i (whole 0) fine (rw times-length h)) in
    ltb→lt (current_hour (time_at run i)) hours at

-- and one of a leap year's
pub hour_of_leap_year : (site : Site) (run : Run) → T (run_accepted (hours_in_year site) run) → (i : ℕ) → i < step_count run → current_hour (time_at run i) < 8784
hour_of_leap_year site run t i h = omega (arith, hour_in_year site run t i h, year_length site)

-- so its day is one of the year's days
pub day_of_year : (site : Site) (run : Run) → T (run_accepted (hours_in_year site) run) → (i : ℕ) → i < step_count run → day_of_step run i < days_in_year (leap_year_of site)
day_of_year site run t i h = whole_days (current_hour (time_at run i)) (hour_in_year site run t i h)
  where
    whole_days : (hour : ℕ) → hour < hours_in_year site → hour / 24 < days_in_year (leap_year_of site)
    whole_days hour = unfold hours_in_year days_in_year in (go (leap_year_of site))
      where
        go : (b : Bool) → hour < cond b 8784 8760 → hour / 24 < cond b 366 365
        go true l = omega (arith, l)
        go false l = omega (arith, l)

module _ {job : Job} {room : Bool} (p : Passed job room) where
  pub reading_fine_lem : (i : ℕ) → i < step_count job.run → T (reading_fine (reading_at job (time_at job.run i)))
  reading_fine_lem i h =
      subst (λ (time : Float). T (reading_fine (reading_at job time))) (times_at job.run i (whole 0) h)
      (all_pass (λ (time : Float). reading_fine (reading_at job time)) (times job.run) i (whole 0) p.readings_fine_lem (rw times-length h))

  -- every step's hour is one of a leap year's
  pub hour_below : (i : ℕ) → i < step_count job.run → current_hour (time_at job.run i) < 8784
  hour_below = hour_of_leap_year job.site job.run p.run_fine_lem

  -- and its day one of the year's days
  pub day_in_year : (i : ℕ) → i < step_count job.run → day_of_step job.run i < days_in_year (leap_year_of job.site)
  day_in_year = day_of_year job.site job.run p.run_fine_lem

  -- the step is from a quarter of an hour to a day
  pub step_accepted : StepLength job.run.step
  unfolding run_accepted
  step_accepted = step_length job.run (and_l (run_fine job.run) (hours_fine (hours_in_year job.site) job.run) p.run_fine_lem)

  -- the surface's lengths are in their ranges
  pub surface_accepted : Doubles job.surface → AcceptedSurface job.surface
  surface_accepted = accepted_surface job.surface p.surface_fine_lem

  -- every near obstacle's transparency is from 0 to 1
  pub near_accepted : AcceptedNear (window_objects_of job.window)
  near_accepted = accepted_near job.window p.window_fine_lem
