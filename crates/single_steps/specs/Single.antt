-- The calls for one step: its row, or its irradiance with the breakdown. On a refusal nothing is stored.
use Rattle.std.specs.Prelude.{Bool, ◌&&◌, List, ℕ, leb, ltb, Float, Err, Ok, Result}
use Rattle.objects.specs.declared.answers.Refusal.{Refusal}
use Rattle.jobs.specs.declared.answers.Row.{Row}
use Rattle.doubles.specs.Arithmetic.{whole}
use Rattle.doubles.specs.Ranges.{within}
use Rattle.words.specs.Words.{word_count, put_double}
use Rattle.sun.specs.declared.site.Site.{Site}
use Rattle.sun.specs.declared.hour.Hour.{Hour}
use Rattle.sun.specs.Site.{site_fine, leaf_days_fine, hours_in_year}
use Rattle.irradiance.specs.declared.parts.Irradiance.{Irradiance}
use Rattle.simulation_time.specs.Timestep.{current_hour}
use Rattle.objects.specs.declared.surface.Surface.{Surface}
use Rattle.objects.specs.declared.answers.Refusal.TheVariants as refusal
use Rattle.fins.specs.Fins.{edition_fine}
use Rattle.objects.specs.Surface.{surface_fine}
use Rattle.object_checks.specs.Checks.{sectors_fine, window_fine}
use Rattle.objects.specs.Refusals.{number_of}
use Rattle.weather.specs.declared.Reading.{Reading}
use Rattle.weather.specs.Weather.{reading_fine}
use Rattle.jobs.specs.JobChecks.{tried}
use Rattle.jobs.specs.Step.{sun_at, irradiance_at, sectors_at, step_with}
use Rattle.jobs.specs.Rows.{put_row}

-- 0 where the call is accepted: its results are then stored
unfoldable pub single_number : Result (Unit {0}) Refusal → ℕ
single_number (Ok _) = 0
single_number (Err r) = number_of r

-- ---- the checks

-- a time from 0 to 8784 whose hour is in the year
unfoldable pub time_fine : Site → Float → Bool
unfolding within whole
time_fine site time = within (whole 0) (whole 8784) time && ltb (current_hour time) (hours_in_year site)

-- 1, 15, 2, 3, then what comes next
unfoldable pub setting_checked : Site → Float → Surface → Result (Unit {0}) Refusal → Result (Unit {0}) Refusal
unfolding tried
setting_checked site time surface next =
    tried Err (site_fine site) refusal.Site
    (tried Err (leaf_days_fine site) refusal.LeafDay
    (tried Err (time_fine site time) refusal.Run
    (tried Err (surface_fine surface) refusal.Surface next)))

-- 6 and 7, where the results take so many words
unfoldable pub values_checked : Reading → ℕ → List ℕ → Result (Unit {0}) Refusal
unfolding tried
values_checked reading words results =
    tried Err (reading_fine reading) refusal.Reading
    (tried Err (leb words (word_count results)) refusal.Results
    (Ok tt))

-- 14, 1, 15, 2, 3, 4, 6, 7: the objects of both seasons; six words for a row
unfoldable pub step_checked : ℕ → Site → Float → Surface → Reading → List ℕ → List ℕ → List ℕ → List ℕ → Result (Unit {0}) Refusal
unfolding tried setting_checked values_checked
step_checked edition site time surface reading summer winter window results =
    tried Err (edition_fine edition) refusal.Edition
    (setting_checked site time surface
    (tried Err (sectors_fine summer && sectors_fine winter && window_fine window) refusal.Object
    (values_checked reading 6 results)))

-- 1, 15, 2, 3, 6, 7: nine words for the breakdown
unfoldable pub irradiance_checked : Site → Float → Surface → Reading → List ℕ → Result (Unit {0}) Refusal
unfolding tried setting_checked values_checked
irradiance_checked site time surface reading results = setting_checked site time surface (values_checked reading 9 results)

-- ---- the calls

-- what a call comes to: its answer, and the results list as it leaves it
pub record Called : Type 0 where
  pub answer : Result (Unit {0}) Refusal
  pub results : List ℕ

abbrev pub called : Result (Unit {0}) Refusal → List ℕ → Called
called answer results = record { answer = answer; results = results }

-- a step's row, or its refusal (8 to 11)
unfoldable pub stored_step : Result Row Refusal → List ℕ → Called
stored_step (Ok row) results = called (Ok tt) (put_row results 0 row)
stored_step (Err r) results = called (Err r) results

-- what the checks refuse stores nothing
unfoldable pub unless_refused : Result (Unit {0}) Refusal → List ℕ → Called → Called
unless_refused (Ok _) results next = next
unless_refused (Err r) results next = called (Err r) results

-- the step is the run's at that time
unfoldable pub step_call : ℕ → Site → Float → Surface → Reading → List ℕ → List ℕ → List ℕ → List ℕ → Called
step_call edition site time surface reading summer winter window results =
    unless_refused (step_checked edition site time surface reading summer winter window results) results
    (stored_step (step_with edition site surface (sectors_at site summer winter time) window time reading) results)

-- altitude, azimuth, direct, diffuse, total, then the breakdown: sky, circumsolar, horizontal, ground reflection
unfoldable pub put_breakdown : List ℕ → Hour → Irradiance → List ℕ
put_breakdown results sun parts =
    let altitude = put_double results 0 sun.altitude in
    let azimuth = put_double altitude 1 sun.azimuth in
    let direct = put_double azimuth 2 parts.direct in
    let diffuse = put_double direct 3 parts.diffuse in
    let total = put_double diffuse 4 parts.total in
    let sky = put_double total 5 parts.sky in
    let circumsolar = put_double sky 6 parts.circumsolar in
    let horizontal = put_double circumsolar 7 parts.horizontal in
    put_double horizontal 8 parts.from_ground

unfoldable pub irradiance_call : Site → Float → Surface → Reading → List ℕ → Called
irradiance_call site time surface reading results =
    unless_refused (irradiance_checked site time surface reading results) results
    (called (Ok tt) (put_breakdown results (sun_at site time) (irradiance_at site surface time reading)))
