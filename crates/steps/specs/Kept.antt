-- What a run keeps from step to step, worked out once: of the site and the surface for all steps, of the day and of the hour.
use Rattle.std.specs.Prelude.{ℕ, ◌+◌, ◌/◌, eqb, Float, Result}
use Rattle.objects.specs.declared.answers.Refusal.{Refusal}
use Rattle.jobs.specs.declared.answers.Row.{Row}
use Rattle.sun.specs.declared.site.Site.{Site}
use Rattle.days.specs.Day.{day_of}
use Rattle.sun.specs.Hour.{sin_cos_of, time_shift_of, hour_of}
use Rattle.orientation.specs.Orientation.{orientation180}
use Rattle.irradiance.specs.declared.parts.Irradiance.{Irradiance}
use Rattle.irradiance.specs.Sky.{sky_of}
use Rattle.irradiance.specs.Surface.{incidence_of}
use Rattle.irradiance.specs.Parts.{irradiance_of}
use Rattle.objects.specs.declared.surface.Surface.{Surface}
use Rattle.weather.specs.declared.Reading.{Reading}
use Rattle.jobs.specs.Step.{row_with}
use Rattle.steps.specs.declared.kept.Fixed.{Fixed}
use Rattle.steps.specs.declared.kept.KeptDay.{KeptDay}
use Rattle.steps.specs.declared.kept.KeptHour.{KeptHour}

unfoldable pub fixed_of : Site → Surface → Fixed
fixed_of site surface = record {
  latitude = sin_cos_of site.latitude;
  tilt = sin_cos_of surface.tilt;
  orientation = sin_cos_of (orientation180 surface.orientation);
  time_shift = time_shift_of site.timezone site.longitude;
}

-- a day of the year, which counts from 0
unfoldable pub kept_day : ℕ → KeptDay
kept_day index = record { index = index; values = day_of (index + 1); declination = sin_cos_of (day_of (index + 1)).declination }

-- an hour of the year, which counts from 0
unfoldable pub kept_hour : Site → Surface → ℕ → KeptHour
kept_hour site surface hour =
    let day = kept_day (hour / 24) in
    let fixed = fixed_of site surface in
    let sun = hour_of site hour in
    record {
      hour = hour;
      extra_terrestrial_radiation = day.values.extra_terrestrial_radiation;
      sun = sun;
      incidence = incidence_of fixed.latitude day.declination fixed.tilt fixed.orientation sun;
    }

-- the irradiance by what is kept
unfoldable pub irradiance_kept : Fixed → ℕ → KeptHour → Reading → Irradiance
irradiance_kept fixed conversion kept reading =
    let sky = sky_of (eqb conversion 1) kept.sun kept.extra_terrestrial_radiation reading.diffuse reading.direct in
    irradiance_of fixed.tilt kept.incidence sky kept.sun.sin_altitude reading.reflectivity

-- the step by what is kept, and by its hour's factor
unfoldable pub step_kept : Site → Fixed → KeptHour → Result Float Refusal → Reading → Result Row Refusal
step_kept site fixed kept factor reading = row_with kept.sun (irradiance_kept fixed site.direct_beam_conversion kept reading) factor
