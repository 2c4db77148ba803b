-- The claim on two jobs compared is about something: three jobs of two steps, at one o'clock on the first two days of January, of which
-- the second is summer. `bare` has no objects; `built` has a distant obstacle, in summer a distant overhang too, an overhang at the window
-- and a right fin; `mixed` has these in another order and some twice, and its sectors start at −0.0. All premises are met, computed by the
-- checker from the definitions. So are the totals that `built` leaves. `dragged` is `built` with four of its objects changed in one measure.
use Rattle.std.specs.Prelude.{Err, Float, Ok, Result, ℕ}
use Rattle.objects.specs.declared.answers.Refusal.{Refusal}
use mathlib.Core.Path.{◌≡◌, refl, sym, subst, ap, ◌∙◌}
use mathlib.Core.Logic.{inl, inr}
use mathlib.Core.Bool.{Bool, true, false, not, ◌&&◌}
use mathlib.Core.List.Memᴰ
use mathlib.Core.List.{List, [], ◌∷◌, ◌++◌, Memᴰ}
use Prim.Native.Nat.{ℕ, zero, suc, ◌*◌, ◌<◌}
use native.Mathlib.Omega.{arith}
use lib.Dec.{T}
use lib.IntN.{pos}
use lib.ListN.{take, replicate}
use lib.Ieee.{Float, add, sub, mul, div, neg, lt, le, eq, ne, is_nan, fits, to_unsigned, of_int, of_bits, to_bits}
use lib.Ieee.Fits.{and_l, and_r}
use Rattle.doubles.specs.Arithmetic.{◌⊕◌, ◌⊗◌, whole, decimal, bits}
use Rattle.doubles.specs.Functions.{clamp, floor_of, cube_of, to_radians, to_degrees, min_of2, max_of2, float_min, float_max, largest_of}
use Rattle.doubles.specs.Order.{◌≼◌, ◌≈◌, Number}
use Rattle.doubles.specs.Ranges.{within, above_zero}
use Rattle.angles.specs.Sine.{is_angle, quarter_turns, quadrant, remainder, sine_sum, cosine_sum, sine_series, cosine_series, sine_at, cosine_at, sine, cosine, tangent}
use Rattle.arcsines.specs.Arcsine.{arcsine_series, half_pi, arcsine_upward, arcsine, arccosine}
use Rattle.powers.specs.Power.{logarithm_of, power_of, power_by, pow_minus1253}
use Rattle.words.specs.Words.{number, bytes_of, word_count, word_at, double_at, put_word, put_double}
use Rattle.calendar.specs.Calendar.{days_in_year, month_lengths, date_from, date_at, place_of as table_place, date_of}
use Rattle.days.specs.Day.{orbit_deviation, solar_declination, equation_of_time_on, extra_terrestrial_radiation_on, day_of}
use Rattle.sun.specs.Hour.{sin_cos_of, time_shift_of, solar_time, hour_angle_of, altitude_sine, cut_altitude, solar_altitude, solar_zenith, azimuth_denominator_of, solar_azimuth, air_mass_of, hour_of}
use Rattle.sun.specs.Site.{site_fine, leaf_days_fine, leap_year_of, hours_in_year}
use Rattle.orientation.specs.Orientation.{orientation180, wrapped_once}
use Rattle.simulation_time.specs.Steps.{run_fine, goes_on, steps_from, step_count, time_at, times_from, times, at_all}
use Rattle.simulation_time.specs.Timestep.{current_hour, series_index}
use Rattle.simulation_time.specs.RunChecks.{hour_fine, hours_fine, run_accepted}
use Rattle.objects.specs.declared.sectors.ShadingSegment.{ShadingSegment}
use Rattle.words.specs.Lists.{first_fine, none, and_then}
use Rattle.objects.specs.Surface.{surface_fine}
use Rattle.object_checks.specs.Checks.{records_fine, window_values_fine, window_record_fine, window_fine, object_values_fine, object_fine, object_unused, triple_fine, bounds_fine, sector_record_fine, sectors_fine}
use Rattle.objects.specs.Records.{records_from, distant_kind, object_at, objects_from, segment_at, sector_count, sectors_of, window_kind, window_object_at, window_count, window_objects_of}
use Rattle.beam.specs.Beam.{within90, outside_solar_beam}
use Rattle.extents.specs.Extents.{obstacle_height, overhang_height, window_overhang_height}
use Rattle.fins.specs.Fins.{edition_fine, fin_width, right_fin1, left_fin1, right_fin2, left_fin2, fins_of}
use Rattle.segments.specs.Segments.{between_ends, holds_azimuth, visit, place_from, place_of, sector_at, segment_in, segment_of}
use Rattle.objects.specs.declared.window.WindowShadingType.TheVariants.{Obstacle}
use Rattle.objects.specs.Objects.{is_obstacle, is_overhang, kind_number, of_kind, counted}
use Rattle.shading.specs.declared.sun_on_surface.SunOnSurface.{SunOnSurface}
use Rattle.shading.specs.Factor.{extents, sun_on, near_obstacle_height, obstacle_extents, overhang_extents, window_overhang_extents, right_fin_extents, left_fin_extents, overhang_shade, sunlit_between, sunlit_height, sunlit_width, sunlit_part, least_of, reduction_factor, has_reveal, factor_in, shading_factor}
use Rattle.shading_laws.specs.Premises.{Doubles, AllNumbers, NoNanExtent, Holds}
use Rattle.shading_laws.specs.Sizes.{taller_obstacle, lower_overhang, deeper, overhang, right_fin}
use Rattle.weather.specs.Weather.{in_series, read_series, reading_fine}
use Rattle.irradiance.specs.Table.{limits, first_above, table_row, coefficients, coefficients_at}
use Rattle.irradiance.specs.Sky.{direct_beam, altitude_term, clearness, sky_brightness, brightness_of, brightness_in, brightness, cut_brightness, circumsolar_brightness, horizontal_brightness, sky_of}
use Rattle.irradiance.specs.Surface.{cosine_of_degrees, incidence_argument, incidence_angle, a_over_b_of, incidence_by, incidence_of}
use Rattle.irradiance.specs.Parts.{direct_irradiance, sky_irradiance, circumsolar_irradiance, horizontal_irradiance, ground_reflection, irradiance_of}
use Rattle.jobs.specs.Job.{Job, index_at, reading_at}
use Rattle.jobs.specs.JobChecks.{indices_fine, readings_fine, days_fine, totals_fine, results_fine, tried, checked}
use Rattle.seasons.specs.Seasons.{in_leaf, whole_records, season_records, sectors_for}
use Rattle.jobs.specs.Step.{sun_at, irradiance_by_day, irradiance_at, sectors_at, job_sectors, shading_at, row_with, step_with, step_at}
use Rattle.jobs.specs.Rows.{put_row, stored_row, with_row}
use Rattle.jobs.specs.Totals.{no_totals, with_step, totals_of, totals_count, month_part, in_part, totals_at_part, totals_at, with_totals}
use Rattle.jobs.specs.Run.{number_for, count_for, sum_for, on_row, run_from, run_checked, Lent, lent, room_fine, room_for, rows_stored, totals_left, Ran, run_of}
use Rattle.jobs.specs.Comparison.{sum_of, SameSeries, Alike, BoundedAlike, triple, sector_objects, window_object, window_objects, HoldsAll, SameObjects, ShadesNoLessAll, NoNan, IsAccepted, Comparable}
use Rattle.segments.proofs.SameWalks.{found_has}
use Rattle.shading_laws.proofs.Members.{extents_into}
use Rattle.jobs.proofs.TotalsLaws.{totals_read}
use Rattle.jobs.proofs.TwoJobs.{two_jobs_compared}

-- ---- the jobs

word : ℕ → List ℕ
word n = n ∷ replicate 7 0

-- a double by its two highest bytes
double : ℕ → ℕ → List ℕ
double high next = replicate 6 0 ++ next ∷ high ∷ []

zeros : ℕ → List ℕ
zeros n = replicate (8 * n) 0

quarter : List ℕ
quarter = double 0x3F 0xD0

metre : List ℕ
metre = double 0x3F 0xF0

two : List ℕ
two = double 0x40 0

hundred : List ℕ
hundred = double 0x40 0x59

round : List ℕ
round = replicate 5 0 ++ 0x80 ∷ 0x76 ∷ 0x40 ∷ []

minus_zero : List ℕ
minus_zero = double 0x80 0

-- an obstacle a metre high a metre away, an overhang two metres up a metre away, one at the window, two metres deep, and a right fin
wall : List ℕ
wall = zeros 1 ++ metre ++ metre

eaves : List ℕ
eaves = word 1 ++ two ++ metre

awning : List ℕ
awning = word 1 ++ two ++ quarter ++ zeros 1

fin : List ℕ
fin = word 2 ++ quarter ++ zeros 2

-- a rooflight, early in the afternoon of two days, in edition 2; the first is in winter, the second in summer
job_with : List ℕ → List ℕ → List ℕ → Job
job_with summer winter window = record {
  edition = 2;
  site = record {
    latitude = whole 51;
    longitude = whole 0;
    timezone = pos 0;
    start_day = 0;
    time_series_step = whole 24;
    leap_year = 0;
    direct_beam_conversion = 0;
    first_leaf_day = 1;
    last_leaf_day = 300;
  };
  run = record { start = whole 13; end = whole 60; step = whole 24 };
  surface = record { tilt = whole 10; orientation = whole 180; base_height = whole 0; height = whole 2; width = whole 1 };
  diffuse = hundred ++ hundred;
  direct = hundred ++ hundred;
  reflectivity = quarter ++ quarter;
  summer = summer;
  winter = winter;
  window = window;
}

-- one sector, 0..360, in each season; the eaves are there in summer alone
bare : Job
bare = job_with (zeros 1 ++ round ++ zeros 25) (zeros 1 ++ round ++ zeros 25) []

built : Job
built = job_with (zeros 1 ++ round ++ word 2 ++ wall ++ eaves ++ zeros 18) (zeros 1 ++ round ++ word 1 ++ wall ++ zeros 21) (awning ++ fin)

mixed : Job
mixed =
    job_with (minus_zero ++ round ++ word 3 ++ eaves ++ wall ++ eaves ++ zeros 15) (minus_zero ++ round ++ word 2 ++ wall ++ wall ++ zeros 18)
    (fin ++ awning ++ awning)

-- the wall two metres high, the eaves one metre up, the overhang at the window a hundred metres deep and the fin one
dragged : Job
dragged =
    job_with (zeros 1 ++ round ++ word 2 ++ (zeros 1 ++ two ++ metre) ++ (word 1 ++ metre ++ metre) ++ zeros 18)
    (zeros 1 ++ round ++ word 1 ++ (zeros 1 ++ two ++ metre) ++ zeros 21) ((word 1 ++ hundred ++ quarter ++ zeros 1) ++ (word 2 ++ metre ++ zeros 2))

room : Lent
room = lent (zeros 1098) (zeros 1134) (zeros 12)

-- ---- all that the values are computed from: to unfold these names unfolds them

lists : ℕ
unfolding word double zeros quarter metre two hundred round minus_zero wall eaves awning fin job_with bare built mixed dragged room number word_count word_at double_at of_bits sector_count triple
    sector_objects window_object window_objects records_from distant_kind object_at objects_from segment_at sectors_of window_kind window_object_at window_count window_objects_of
    in_leaf whole_records season_records sectors_for sectors_at
lists = 0

doubles : ℕ
unfolding add sub mul div lt le neg eq ne is_nan to_unsigned bits whole decimal of_int floor_of cube_of to_radians to_degrees min_of2 max_of2 float_min float_max largest_of
doubles = 0

checks : ℕ
unfolding lists doubles checked tried edition_fine site_fine leaf_days_fine hours_in_year at_all indices_fine readings_fine reading_fine days_fine days_in_year totals_count totals_fine results_fine room_fine run_accepted run_fine hours_fine hour_fine times times_from
    step_count steps_from goes_on current_hour series_index in_series read_series within above_zero surface_fine first_fine records_fine window_values_fine window_record_fine window_fine
    object_values_fine object_fine object_unused triple_fine bounds_fine sector_record_fine sectors_fine
checks = 0

sun : ℕ
unfolding lists doubles sine cosine tangent is_angle quarter_turns quadrant remainder sine_series sine_sum cosine_series cosine_sum sine_at cosine_at clamp arcsine arcsine_upward
    arcsine_series half_pi pow_minus1253 power_by power_of logarithm_of orbit_deviation solar_declination equation_of_time_on extra_terrestrial_radiation_on day_of sin_cos_of time_shift_of
    solar_time hour_angle_of altitude_sine cut_altitude solar_altitude solar_zenith azimuth_denominator_of solar_azimuth air_mass_of hour_of orientation180 wrapped_once current_hour sun_at time_at
sun = 0

shade : ℕ
unfolding sun within90 outside_solar_beam obstacle_height overhang_height window_overhang_height fin_width right_fin1 left_fin1 right_fin2 left_fin2 fins_of between_ends holds_azimuth visit place_from place_of sector_at segment_in segment_of extents is_obstacle is_overhang
    kind_number of_kind sun_on obstacle_extents overhang_extents window_overhang_extents right_fin_extents left_fin_extents overhang_shade sunlit_between sunlit_height sunlit_width sunlit_part least_of
    reduction_factor has_reveal counted factor_in shading_factor shading_at
shade = 0

-- ---- they are accepted

is_below : Float → Result Float Refusal → Bool
is_below x (Ok f) = lt f x
is_below x (Err r) = false

is_factor : Result Float Refusal → Bool
is_factor (Ok f) = true
is_factor (Err r) = false

-- a step's factor
answered : Job → Float → Result Float Refusal
answered job time = shading_at job.edition job.surface (sun_at job.site time) (job_sectors job time) job.window

two_steps : (job : Job) → checked job (room_for job room) ≡ Ok 2 → T (is_factor (answered job job.run.start))
    → T (is_factor (answered job (job.run.start ⊕ job.run.step))) → IsAccepted (run_of job room).ran
unfolding answered run_of
two_steps job c t u = go (answered job job.run.start) (answered job (job.run.start ⊕ job.run.step)) refl refl t u
  where
    go : (a b : Result Float Refusal) → answered job job.run.start ≡ a → answered job (job.run.start ⊕ job.run.step) ≡ b
        → T (is_factor a) → T (is_factor b) → IsAccepted (run_of job room).ran
    go (Err r) b e d t u = unfold is_factor in absurd t
    go (Ok f) (Err r) e d t u = unfold is_factor in absurd u
    go (Ok f) (Ok g) e d t u = unfold run_checked run_from on_row step_at step_with row_with number_for in rw (c, e, d)

bare_accepted : IsAccepted (run_of bare room).ran
unfolding answered is_factor checks shade
bare_accepted = two_steps bare refl tt tt

built_accepted : IsAccepted (run_of built room).ran
unfolding answered is_factor checks shade
built_accepted = two_steps built refl tt tt

mixed_accepted : IsAccepted (run_of mixed room).ran
unfolding answered is_factor checks shade
mixed_accepted = two_steps mixed refl tt tt

dragged_accepted : IsAccepted (run_of dragged room).ran
unfolding answered is_factor checks shade
dragged_accepted = two_steps dragged refl tt tt

-- the objects do shade
built_shaded : T (is_below (whole 1) (answered built (whole 13)) && is_below (whole 1) (answered built (whole 37)))
unfolding answered is_below shade
built_shaded = tt

is_lower : Result Float Refusal → Result Float Refusal → Bool
is_lower (Ok f) a = is_below f a
is_lower (Err r) a = false

-- and larger ones more
dragged_shaded : T (is_lower (answered built (whole 13)) (answered dragged (whole 13)) && is_lower (answered built (whole 37)) (answered dragged (whole 37)))
unfolding answered is_lower is_below shade
dragged_shaded = tt

-- ---- no extent is NaN

numbers : List Float → Bool
numbers [] = true
numbers (x ∷ xs) = not (is_nan x) && numbers xs

all_numbers : (xs : List Float) → T (numbers xs) → AllNumbers xs
unfolding numbers
all_numbers [] t x m = absurd (Memᴰ.not-nil m)
all_numbers (y ∷ xs) t x m =
    elim (Memᴰ.cases_cons m) [
      | inl e ↦ subst Number (sym e) (record { holds = and_l (not (is_nan y)) (numbers xs) t })
      | inr k ↦ all_numbers xs (and_r (not (is_nan y)) (numbers xs) t) x k
    ]

-- the sun on the surface at a step
sun_then : Job → ℕ → SunOnSurface
sun_then job i = let hour = sun_at job.site (time_at job.run i) in sun_on job.edition job.surface hour.altitude hour.azimuth

-- the fin does shade, at the second step
fin_shades : T (lt (whole 0) (fin_width (sun_then built 1).fins.right (decimal 25 2) (whole 0)))
unfolding shade sun_then
fin_shades = tt

-- of the first sector and the window, at a step
abbrev FineAt : Job → ℕ → Type 0
FineAt job i = NoNanExtent job.surface (sun_then job i) (counted (segment_at (job_sectors job (time_at job.run i)) 0)) (window_objects_of job.window)

module _ (job : Job) (i : ℕ) where
  near_heights : List Float
  near_heights = extents (of_kind Obstacle) (near_obstacle_height job.surface (sun_then job i)) (window_objects_of job.window)

  fine_at : T (numbers (obstacle_extents job.surface (sun_then job i) (counted (segment_at (job_sectors job (time_at job.run i)) 0))))
      → T (numbers (overhang_extents job.surface (sun_then job i) (counted (segment_at (job_sectors job (time_at job.run i)) 0))))
      → T (numbers (window_overhang_extents (sun_then job i) (window_objects_of job.window)))
      → T (numbers (right_fin_extents (sun_then job i) (window_objects_of job.window)))
      → T (numbers (left_fin_extents (sun_then job i) (window_objects_of job.window)))
      → T (numbers near_heights) → FineAt job i
  unfolding near_heights
  fine_at o h w r l n = record {
    obstacles = all_numbers _ o;
    overhangs = all_numbers _ h;
    window_overhangs = all_numbers _ w;
    right_fins = all_numbers _ r;
    left_fins = all_numbers _ l;
    near_obstacles = λ b m k.
        all_numbers near_heights n _ (extents_into (of_kind Obstacle) (near_obstacle_height job.surface (sun_then job i)) (window_objects_of job.window) b m k);
  }

-- the list of a step's day has one sector
abbrev OneSector : Job → ℕ → Type 0
OneSector job i = let sectors = job_sectors job (time_at job.run i) in sectors_of sectors ≡ segment_at sectors 0 ∷ []

-- two steps, one sector
no_nan : (job : Job) → step_count job.run ≡ 2 → OneSector job 0 → OneSector job 1 → FineAt job 0 → FineAt job 1 → NoNan job
unfolding sun_then
no_nan job c d e f g = record { at_step = λ i h. record { at_found = λ k s m. found_fine i (one i (omega (arith, c))) (each i (omega (arith, c))) s m } }
  where
    one : (i : ℕ) → i < 2 → OneSector job i
    one zero h = d
    one (suc zero) h = e
    one (suc (suc i)) h = absurd (omega arith)

    each : (i : ℕ) → i < 2 → FineAt job i
    each zero h = f
    each (suc zero) h = g
    each (suc (suc i)) h = absurd (omega arith)

    Fine : ℕ → ShadingSegment → Type 0
    Fine i s = NoNanExtent job.surface (sun_then job i) (counted s) (window_objects_of job.window)

    found_fine : (i : ℕ) → OneSector job i → FineAt job i → (s : ShadingSegment) → segment_of (sun_at job.site (time_at job.run i)).azimuth (sectors_of (job_sectors job (time_at job.run i))) ≡ Ok s → Fine i s
    found_fine i o t = found_has (Fine i) (sun_at job.site (time_at job.run i)).azimuth (sectors_of (job_sectors job (time_at job.run i))) (λ s m.
        elim (Memᴰ.cases_cons (subst (Memᴰ s) o m)) [
          | inl q ↦ subst (Fine i) (sym q) t
          | inr q ↦ absurd (Memᴰ.not-nil q)
        ])

bare_no_nan : NoNan bare
unfolding checks shade sun_then numbers near_heights near_obstacle_height
bare_no_nan = no_nan bare refl refl refl (fine_at bare 0 tt tt tt tt tt tt) (fine_at bare 1 tt tt tt tt tt tt)

built_no_nan : NoNan built
unfolding checks shade sun_then numbers near_heights near_obstacle_height
built_no_nan = no_nan built refl refl refl (fine_at built 0 tt tt tt tt tt tt) (fine_at built 1 tt tt tt tt tt tt)

mixed_no_nan : NoNan mixed
unfolding checks shade sun_then numbers near_heights near_obstacle_height
mixed_no_nan = no_nan mixed refl refl refl (fine_at mixed 0 tt tt tt tt tt tt) (fine_at mixed 1 tt tt tt tt tt tt)

dragged_no_nan : NoNan dragged
unfolding checks shade sun_then numbers near_heights near_obstacle_height
dragged_no_nan = no_nan dragged refl refl refl (fine_at dragged 0 tt tt tt tt tt tt) (fine_at dragged 1 tt tt tt tt tt tt)

-- ---- they are alike and bounded alike

same_series : (l : List ℕ) → SameSeries l l
same_series l = record { lengths = refl; values = λ i. refl }

module _ (s s' t t' v w : List ℕ) where
  alike : Alike (job_with s s' v) (job_with t t' w)
  unfolding job_with
  alike = record {
    editions = refl;
    sites = refl;
    runs = refl;
    surfaces = refl;
    diffuses = same_series (hundred ++ hundred);
    directs = same_series (hundred ++ hundred);
    reflectivities = same_series (quarter ++ quarter);
  }

  are_doubles : Doubles (job_with s s' v).surface
  unfolding job_with whole fits
  are_doubles = record { height_fits = record { holds = tt }; width_fits = record { holds = tt } }

level : (x y : Float) → T (le x y && le y x) → x ≈ y
level x y t = record { below = record { holds = and_l (le x y) (le y x) t }; above = record { holds = and_r (le x y) (le y x) t } }

levels : List ℕ → List ℕ → ℕ → Bool
levels l m k = le (double_at l k) (double_at m k) && le (double_at m k) (double_at l k)

-- lists of one sector
bounded : (l m : List ℕ) → sector_count l ≡ 1 → sector_count m ≡ 1 → T (levels l m 0) → T (levels l m 1) → BoundedAlike l m
unfolding levels
bounded l m one other starts ends = record {
  lengths = one ∙ sym other;
  starts = λ i h. let z : i ≡ 0 = omega (arith, h, one) in rw z (level _ _ starts);
  ends = λ i h. let z : i ≡ 0 = omega (arith, h, one) in rw z (level _ _ ends);
}

module _ (s s' v t t' w : List ℕ) where
  comparable : BoundedAlike s t → BoundedAlike s' t' → IsAccepted (run_of (job_with s s' v) room).ran → IsAccepted (run_of (job_with t t' w) room).ran
      → NoNan (job_with s s' v) → NoNan (job_with t t' w) → Comparable (job_with s s' v) (job_with t t' w) room room
  unfolding job_with
  comparable summer winter accepted other fine fine' = record {
    alike = alike s s' t t' v w;
    bounded = record { in_summer = summer; in_winter = winter };
    first_accepted = accepted;
    second_accepted = other;
    first_extents = fine;
    second_extents = fine';
    doubles = are_doubles s s' t t' v w;
  }

bare_built : Comparable bare built room room
unfolding lists levels le
bare_built =
    comparable bare.summer bare.winter bare.window built.summer built.winter built.window
    (bounded bare.summer built.summer refl refl tt tt) (bounded bare.winter built.winter refl refl tt tt)
    bare_accepted built_accepted bare_no_nan built_no_nan

built_mixed : Comparable built mixed room room
unfolding lists levels le
built_mixed =
    comparable built.summer built.winter built.window mixed.summer mixed.winter mixed.window
    (bounded built.summer mixed.summer refl refl tt tt) (bounded built.winter mixed.winter refl refl tt tt)
    built_accepted mixed_accepted built_no_nan mixed_no_nan

built_dragged : Comparable built dragged room room
unfolding lists levels le
built_dragged =
    comparable built.summer built.winter built.window dragged.summer dragged.winter dragged.window
    (bounded built.summer dragged.summer refl refl tt tt) (bounded built.winter dragged.winter refl refl tt tt)
    built_accepted dragged_accepted built_no_nan dragged_no_nan

-- ---- and hold each other's objects

holds_none : {Object : Type 0} {ys : List Object} → Holds ys []
holds_none o m = absurd (Memᴰ.not-nil m)

and_held : {Object : Type 0} {x : Object} {xs ys : List Object} → Memᴰ x ys → Holds ys xs → Holds ys (x ∷ xs)
and_held {Object} {x} {xs} {ys} m h o k =
    elim (Memᴰ.cases_cons k) [
      | inl e ↦ subst (λ (z : Object). Memᴰ z ys) (sym e) m
      | inr l ↦ h o l
    ]

more : HoldsAll built bare
unfolding lists
more = record {
  in_summer = λ i h. let z : i ≡ 0 = omega arith in rw z holds_none;
  in_winter = λ i h. let z : i ≡ 0 = omega arith in rw z holds_none;
  at_window = holds_none;
}

same : SameObjects built mixed
unfolding lists
same = record {
  there = record {
    in_summer = λ i h. let z : i ≡ 0 = omega arith in rw z (and_held (Memᴰ.tail (Memᴰ.head refl)) (and_held (Memᴰ.head refl) holds_none));
    in_winter = λ i h. let z : i ≡ 0 = omega arith in rw z (and_held (Memᴰ.head refl) holds_none);
    at_window = and_held (Memᴰ.tail (Memᴰ.head refl)) (and_held (Memᴰ.head refl) holds_none);
  };
  back = record {
    in_summer = λ i h. let z : i ≡ 0 = omega arith in
        rw z (and_held (Memᴰ.tail (Memᴰ.head refl)) (and_held (Memᴰ.head refl) (and_held (Memᴰ.tail (Memᴰ.head refl)) holds_none)));
    in_winter = λ i h. let z : i ≡ 0 = omega arith in rw z (and_held (Memᴰ.head refl) (and_held (Memᴰ.head refl) holds_none));
    at_window = and_held (Memᴰ.tail (Memᴰ.head refl)) (and_held (Memᴰ.head refl) (and_held (Memᴰ.head refl) holds_none));
  };
}

-- or have such as shade no less
larger : ShadesNoLessAll dragged built
unfolding lists doubles counted is_obstacle is_overhang of_kind kind_number
larger =
    let both-tall = taller_obstacle (record { first = tt; second = tt }) refl (record { holds = tt }) in
    record {
      in_summer = and_then (record {
        bounds = record { starts = level _ _ tt; ends = level _ _ tt };
        objects = and_then both-tall (and_then (lower_overhang tt (record { first = tt; second = tt }) refl (record { holds = tt })) none);
      }) none;
      in_winter = and_then (record { bounds = record { starts = level _ _ tt; ends = level _ _ tt }; objects = and_then both-tall none }) none;
      at_window =
          and_then (overhang (record { first = tt; second = tt }) (deeper (tt, tt) refl (record { holds = tt })))
          (and_then (right_fin (record { first = tt; second = tt }) (deeper tt refl (record { holds = tt }))) none);
    }

-- ---- so the claim speaks of them

-- the objects make no factor and no sum larger
no_larger : sum_of (run_of built room).ran ≼ sum_of (run_of bare room).ran
no_larger = ((two_jobs_compared bare built room room bare_built).runs.second_more more).sums

-- nor do larger ones
still_no_larger : sum_of (run_of dragged room).ran ≼ sum_of (run_of built room).ran
still_no_larger = ((two_jobs_compared built dragged room room built_dragged).runs.second_sizes larger).sums

-- their order and number is all one
same_sum : sum_of (run_of built room).ran ≡ sum_of (run_of mixed room).ran
same_sum = (two_jobs_compared built mixed room room built_mixed).runs.same_sums same

-- nor the sum of the first of January, nor that of January, which stands behind 365 days
day_no_larger : (totals_at (run_of built room).totals 0).sum ≼ (totals_at (run_of bare room).totals 0).sum
unfolding lists totals_count days_in_year
day_no_larger = (two_jobs_compared bare built room room bare_built).totals.second_more more 0 (omega arith)

month_no_larger : (totals_at (run_of built room).totals 365).sum ≼ (totals_at (run_of bare room).totals 365).sum
unfolding lists totals_count days_in_year
month_no_larger = (two_jobs_compared bare built room room bare_built).totals.second_more more 365 (omega arith)

-- the totals of the same objects are the same bytes
same_totals : take (24 * 377) (run_of built room).totals ≡ take (24 * 377) (run_of mixed room).totals
unfolding lists totals_count days_in_year
same_totals = (two_jobs_compared built mixed room room built_mixed).totals.same_bytes same

-- ---- what a run leaves of its day and its month

sky : ℕ
unfolding sun limits first_above table_row coefficients coefficients_at direct_beam altitude_term clearness sky_brightness brightness_of brightness_in brightness cut_brightness
    circumsolar_brightness horizontal_brightness sky_of cosine_of_degrees incidence_argument incidence_angle a_over_b_of incidence_by incidence_of arccosine direct_irradiance sky_irradiance
    circumsolar_irradiance horizontal_irradiance ground_reflection irradiance_of irradiance_by_day irradiance_at index_at reading_at series_index read_series
sky = 0

run : ℕ
unfolding checks shade sky run_of run_checked run_from on_row step_at step_with row_with number_for count_for sum_for sum_of rows_stored put_row stored_row with_row put_double put_word bytes_of to_bits
run = 0

totals : ℕ
unfolding run totals_at_part totals_of no_totals with_step in_part month_part date_of table_place date_at date_from month_lengths time_at
totals = 0

-- after two steps a record is the totals of its part
part_left : (job : Job) (k : ℕ) → checked job (room_for job room) ≡ Ok 2 → rows_stored (run_of job room).ran.answer ≡ 2 → k < totals_count (leap_year_of job.site)
    → totals_at (run_of job room).totals k ≡ totals_at_part (leap_year_of job.site) job.run (run_of job room).ran.results 2 k
unfolding run_of totals_left
part_left job k c e h =
    let ran : Ran = (run_of job room).ran in
    let leap = leap_year_of job.site in
    ap (λ (s : Result ℕ Refusal). totals_at (totals_left s job ran room.totals) k) c
    ∙ ap (λ (n : ℕ). totals_at (with_totals leap job.run ran.results n room.totals) k) e
    ∙ totals_read leap job.run ran.results 2 room.totals (omega arith) k h

-- the first step, in winter
built_first : totals_at (run_of built room).totals 0
    ≡ let rows = (run_of built room).ran.results in
    record { count = 1; largest = double_at rows 4; sum = whole 0 ⊕ (double_at rows 5 ⊗ double_at rows 2) ⊗ whole 24 }
unfolding totals
built_first = part_left built 0 refl refl (omega arith) ∙ refl

-- both, the larger total, and the run's sum
built_month : totals_at (run_of built room).totals 365 ≡ record { count = 2; largest = double_at (run_of built room).ran.results 10; sum = sum_of (run_of built room).ran }
unfolding totals
built_month = part_left built 365 refl refl (omega arith) ∙ refl

-- and nothing on the third day
built_third : totals_at (run_of built room).totals 2 ≡ no_totals
unfolding totals
built_third = part_left built 2 refl refl (omega arith) ∙ refl
