-- Every hour has numbers: what is claimed of the sun's angles, of the angle of incidence and of the irradiance, for every accepted site,
-- surface and reading and every hour of either year. `every_hour` and `every_reading` (proofs/EveryHour.antt) prove it.
use Rattle.std.specs.Prelude.{ℕ, ◌+◌, ◌/◌, ◌<◌, T, Float}
use Rattle.doubles.specs.Arithmetic.{whole}
use Rattle.doubles.specs.Order.{◌≼◌, InRange, Finite}
use Rattle.days.specs.Day.{day_of}
use Rattle.orientation.specs.Orientation.{orientation180}
use Rattle.sun.specs.declared.site.Site.{Site}
use Rattle.sun.specs.Site.{site_fine}
use Rattle.sun.specs.Hour.{sin_cos_of, hour_of}
use Rattle.irradiance.specs.declared.parts.Irradiance.{Irradiance}
use Rattle.irradiance.specs.Surface.{incidence_angle}
use Rattle.objects.specs.declared.surface.Surface.{Surface}
use Rattle.objects.specs.Surface.{surface_fine}
use Rattle.simulation_time.specs.Timestep.{current_hour}
use Rattle.weather.specs.declared.Reading.{Reading}
use Rattle.weather.specs.Weather.{reading_fine}
use Rattle.jobs.specs.Step.{irradiance_at}

-- the angle of incidence on a surface in an hour of the year, which counts from 0
abbrev pub incidence_in : Site → Surface → ℕ → Float
incidence_in site surface hour =
    incidence_angle (sin_cos_of site.latitude) (sin_cos_of (day_of (hour / 24 + 1)).declination) (sin_cos_of surface.tilt)
    (sin_cos_of (orientation180 surface.orientation)) (hour_of site hour).hour_angle

-- The angles of an hour, in degrees. The azimuth may lie far beyond ±180, where the sun is overhead.
pub record AnglesInRange (site : Site) (surface : Surface) (hour : ℕ) : Type 0 where
  pub altitude : InRange (whole 0) (whole 90) (hour_of site hour).altitude
  pub azimuth : Finite (hour_of site hour).azimuth
  pub incidence : InRange (whole 0) (whole 180) (incidence_in site surface hour)

-- 8784 hours are those of a leap year; a common year has the first 8760
abbrev pub EveryHour : Type 0
EveryHour = (site : Site) (surface : Surface) → T (site_fine site) → T (surface_fine surface) → (hour : ℕ) → hour < 8784 → AnglesInRange site surface hour

-- the irradiance with its breakdown
pub record FiniteIrradiance (parts : Irradiance) : Type 0 where
  pub direct : Finite parts.direct
  pub direct_from : whole 0 ≼ parts.direct
  pub diffuse : Finite parts.diffuse
  pub total : Finite parts.total
  pub sky : Finite parts.sky
  pub circumsolar : Finite parts.circumsolar
  pub horizontal : Finite parts.horizontal
  pub from_ground : Finite parts.from_ground

abbrev pub EveryReading : Type 0
EveryReading =
    (site : Site) (surface : Surface) → T (site_fine site) → T (surface_fine surface) → (time : Float) → current_hour time < 8784
    → (reading : Reading) → T (reading_fine reading) → FiniteIrradiance (irradiance_at site surface time reading)
