-- A step by what is kept is the step by its definition, and what is kept is that of its own hour.
use Rattle.std.specs.Prelude.{Float, Result}
use Rattle.objects.specs.declared.answers.Refusal.{Refusal}
use Rattle.jobs.specs.declared.answers.Row.{Row}
use mathlib.Core.Path.{◌≡◌, refl, sym, ◌∙◌, ap}
use mathlib.Core.List.{List}
use Prim.Native.Nat.{ℕ, ◌/◌}
use lib.Ieee.{Float}
use Rattle.sun.specs.declared.site.Site.{Site}
use Rattle.sun.specs.Hour.{hour_of}
use Rattle.simulation_time.specs.Timestep.{current_hour}
use Rattle.objects.specs.declared.surface.Surface.{Surface}
use Rattle.objects.specs.declared.sectors.ShadingSegment.{ShadingSegment}
use Rattle.objects.specs.declared.window.WindowShadingObject.{WindowShadingObject}
use Rattle.objects.specs.Records.{sectors_of, window_objects_of}
use Rattle.shading.specs.Factor.{shading_factor}
use Rattle.weather.specs.declared.Reading.{Reading}
use Rattle.jobs.specs.Step.{sun_at, irradiance_at, shading_at, step_with}
use Rattle.steps.specs.declared.kept.Fixed.{Fixed}
use Rattle.steps.specs.declared.kept.KeptDay.{KeptDay}
use Rattle.steps.specs.declared.kept.KeptHour.{KeptHour}
use Rattle.steps.specs.Kept.{fixed_of, kept_day, kept_hour, irradiance_kept, step_kept}

module _ (edition : ℕ) (site : Site) (surface : Surface) (sectors window : List ℕ) (time : Float) (reading : Reading) where
  kept_step : step_kept site (fixed_of site surface) (kept_hour site surface (current_hour time)) (shading_at edition surface (sun_at site time) sectors window) reading
      ≡ step_with edition site surface sectors window time reading
  unfolding step_kept irradiance_kept kept_hour kept_day fixed_of step_with sun_at irradiance_at
  kept_step = refl

  pub by_kept : (fixed : Fixed) (kept : KeptHour) (factor : Result Float Refusal) (answer : Result Row Refusal) → fixed ≡ fixed_of site surface
      → kept ≡ kept_hour site surface (current_hour time) → factor ≡ shading_at edition surface (hour_of site (current_hour time)) sectors window
      → answer ≡ step_kept site fixed kept factor reading → answer ≡ step_with edition site surface sectors window time reading
  unfolding sun_at
  by_kept fixed kept factor answer f k s e = e ∙ rw (f, k, s) kept_step

module _ (site : Site) (surface : Surface) (hour : ℕ) (kept : KeptHour) (k : kept ≡ kept_hour site surface hour) where
  kept_sun : kept.sun ≡ hour_of site hour
  unfolding kept_hour
  kept_sun = ap (λ (x : KeptHour). x.sun) k

  -- the factor for the kept sun is the hour's
  pub kept_factor : (edition : ℕ) (sectors window : List ℕ) (ss : List ShadingSegment) (ws : List WindowShadingObject) (factor : Result Float Refusal) → ss ≡ sectors_of sectors
      → ws ≡ window_objects_of window → factor ≡ shading_factor edition surface kept.sun.altitude kept.sun.azimuth ss ws
      → factor ≡ shading_at edition surface (hour_of site hour) sectors window
  unfolding shading_at
  kept_factor edition sectors window ss ws factor s w f = f ∙ rw (kept_sun, s, w)

module _ (site : Site) (surface : Surface) (time : Float) (kept : KeptHour) (k : kept ≡ kept_hour site surface (current_hour time)) where
  pub sun_by_kept : kept.sun ≡ sun_at site time
  unfolding sun_at
  sun_by_kept = kept_sun site surface (current_hour time) kept k

  pub irradiance_by_kept : (reading : Reading) (fixed : Fixed) → fixed ≡ fixed_of site surface
      → irradiance_kept fixed site.direct_beam_conversion kept reading ≡ irradiance_at site surface time reading
  unfolding irradiance_kept kept_hour kept_day fixed_of irradiance_at sun_at
  irradiance_by_kept reading fixed f = rw (k, f)

pub its_hour : (site : Site) (surface : Surface) (hour : ℕ) (kept : KeptHour) → kept ≡ kept_hour site surface hour → kept.hour ≡ hour
unfolding kept_hour
its_hour site surface hour kept e = ap (λ (k : KeptHour). k.hour) e

pub of_its_hour : (site : Site) (surface : Surface) (hour : ℕ) (kept : KeptHour) → kept ≡ kept_hour site surface hour → kept ≡ kept_hour site surface kept.hour
of_its_hour site surface hour kept e = e ∙ ap (kept_hour site surface) (sym (its_hour site surface hour kept e))

pub day_of_its_hour : (site : Site) (surface : Surface) (hour : ℕ) (kept : KeptHour) (day : KeptDay)
    → kept ≡ kept_hour site surface hour → day ≡ kept_day (hour / 24) → day ≡ kept_day (kept.hour / 24)
day_of_its_hour site surface hour kept day e d = d ∙ ap (λ (h : ℕ). kept_day (h / 24)) (sym (its_hour site surface hour kept e))

pub its_index : (index : ℕ) (kept : KeptDay) → kept ≡ kept_day index → kept.index ≡ index
unfolding kept_day
its_index index kept e = ap (λ (k : KeptDay). k.index) e

pub of_its_day : (index : ℕ) (kept : KeptDay) → kept ≡ kept_day index → kept ≡ kept_day kept.index
unfolding kept_day
of_its_day index kept e = e ∙ sym (ap (λ (k : KeptDay). kept_day k.index) e)
