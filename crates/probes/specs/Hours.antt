-- One hour as the crates below define it, put together for C.
use Rattle.std.specs.Prelude.{ℕ, ◌+◌, ◌/◌, ◌%◌, eqb, ℤ, Float}
use Rattle.angles.specs.declared.SinCos.{SinCos}
use Rattle.days.specs.declared.Day.{Day}
use Rattle.days.specs.Day.{day_of}
use Rattle.sun.specs.Hour.{sin_cos_of, time_shift_of}
use Rattle.sun.specs.HourParts.{hour_by}
use Rattle.irradiance.specs.Sky.{sky_of}
use Rattle.orientation.specs.Orientation.{orientation180}
use Rattle.irradiance.specs.Surface.{incidence_of}
use Rattle.irradiance.specs.Parts.{irradiance_of}
use Rattle.probes.specs.declared.sky.ProbeHour.{ProbeHour}
use Rattle.probes.specs.declared.sky.ProbeDay.{ProbeDay}

abbrev pub pair : Float → Float → SinCos
pair s c = record { sin = s; cos = c }

abbrev pub day_answer : Day → ProbeDay
day_answer d = record {
  declination = d.declination;
  equation_of_time = d.equation_of_time;
  extra_terrestrial_radiation = d.extra_terrestrial_radiation;
}

abbrev pub day_given : ProbeDay → Day
day_given d = record {
  declination = d.declination;
  equation_of_time = d.equation_of_time;
  extra_terrestrial_radiation = d.extra_terrestrial_radiation;
}

-- by the sines and cosines of latitude l, declination d, tilt t and orientation o
unfoldable pub hour_with : SinCos → SinCos → SinCos → SinCos → Day → Float → ℕ → ℕ → Float → Float → Float → ProbeHour
hour_with l d t o day shift hour conversion diffuse direct reflectivity =
    let sun = hour_by l d day.equation_of_time shift hour in
    let sky = sky_of (eqb conversion 1) sun day.extra_terrestrial_radiation diffuse direct in
    let parts = irradiance_of t (incidence_of l d t o sun) sky sun.sin_altitude reflectivity in
    record {
      altitude = sun.altitude;
      azimuth = sun.azimuth;
      direct = parts.direct;
      diffuse = parts.diffuse;
      total = parts.total;
      sky = parts.sky;
      circumsolar = parts.circumsolar;
      horizontal = parts.horizontal;
      from_ground = parts.from_ground;
    }

-- an hour of the year, from angles in degrees
unfoldable pub hour_at : Float → Float → ℤ → ℕ → ℕ → Float → Float → Float → Float → Float → ProbeHour
hour_at latitude longitude timezone hour conversion tilt orientation diffuse direct reflectivity =
    let day = day_of (hour / 24 + 1) in
    let o = sin_cos_of (orientation180 orientation) in
    hour_with (sin_cos_of latitude) (sin_cos_of day.declination) (sin_cos_of tilt) o day (time_shift_of timezone longitude) (hour % 24)
    conversion diffuse direct reflectivity
