-- What depends on the hour: ISO 52010-1's time shift, solar time, hour angle, altitude, zenith and azimuth of the sun, and the air
-- mass, in the Rust's order of operations. Angles are in degrees, times in hours; the hour of the day counts from 0.
-- A formula that a run takes apart names the sines and cosines of latitude l and declination d, since a run works those out once.
use Rattle.std.specs.Prelude.{ℕ, ◌+◌, ◌/◌, ◌%◌, Bool, cond, ◌&&◌, ℤ, Float}
use Rattle.std.specs.Float.Ieee.{neg, of_int, lt, le}
use Rattle.std.specs.Float.{binary64}
use Rattle.doubles.specs.Arithmetic.{◌⊕◌, ◌⊖◌, ◌⊗◌, ◌⊘◌, decimal, whole}
use Rattle.doubles.specs.Functions.{to_radians, to_degrees}
use Rattle.angles.specs.declared.SinCos.{SinCos}
use Rattle.angles.specs.Sine.{sine, cosine}
use Rattle.arcsines.specs.Arcsine.{arcsine}
use Rattle.powers.specs.Power.{pow_minus1253}
use Rattle.days.specs.Day.{day_of}
use Rattle.orientation.specs.Orientation.{wrapped_once}
use Rattle.sun.specs.declared.site.Site.{Site}
use Rattle.sun.specs.declared.hour.Hour.{Hour}

-- the sine and the cosine of an angle in degrees
unfoldable pub sin_cos_of : Float → SinCos
sin_cos_of degrees = record { sin = sine (to_radians degrees); cos = cosine (to_radians degrees) }

-- timezone − longitude / 15
unfoldable pub time_shift_of : ℤ → Float → Float
unfolding whole
time_shift_of timezone longitude = of_int binary64 timezone ⊖ longitude ⊘ whole 15

-- hour + 1, since the standard's hours count from 1; the equation of time is in minutes
unfoldable pub solar_time : ℕ → Float → Float → Float
unfolding whole
solar_time hour equation shift = whole (hour + 1) ⊖ equation ⊘ whole 60 ⊖ shift

-- 15 · (12.5 − solar time): 15 degrees an hour, shifted by 360 once
unfoldable pub hour_angle_of : Float → Float
unfolding decimal whole
hour_angle_of time = wrapped_once (whole 15 ⊗ (decimal 125 1 ⊖ time))

-- ---- altitude and zenith

-- sin d · sin l + cos d · cos l · cos(hour angle)
unfoldable pub altitude_sine : SinCos → SinCos → Float → Float
altitude_sine l d cos_hour_angle = d.sin ⊗ l.sin ⊕ d.cos ⊗ l.cos ⊗ cos_hour_angle

-- an altitude below 0.0001 counts as 0
unfoldable pub is_night : Float → Bool
unfolding decimal
is_night altitude = lt altitude (decimal 1 4)

-- and becomes 0; NaN stays
unfoldable pub cut_altitude : Float → Float
unfolding is_night whole
cut_altitude altitude = cond (is_night altitude) (whole 0) altitude

unfoldable pub solar_altitude : Float → Float → Float → Float
solar_altitude latitude declination angle =
    cut_altitude (to_degrees (arcsine (altitude_sine (sin_cos_of latitude) (sin_cos_of declination) (cosine (to_radians angle)))))

unfoldable pub solar_zenith : Float → Float
unfolding whole
solar_zenith altitude = whole 90 ⊖ altitude

-- ---- azimuth, from south, eastwards positive; w is 180 less the hour angle

-- The last branch takes every case that the first two leave.
unfoldable pub azimuth_branch : Float → Float → Float → Float
unfolding whole neg
azimuth_branch sin_aux1 cos_aux1 aux2 =
    cond (le (whole 0) sin_aux1 && lt (whole 0) cos_aux1)
    (cond (lt (whole 180) aux2) (aux2 ⊖ whole 180) (whole 180 ⊖ aux2))
    (cond (lt cos_aux1 (whole 0)) aux2 (neg (whole 180 ⊕ aux2)))

-- the numerator of sin aux1: cos d · sin w
unfoldable pub azimuth_numerator : SinCos → SinCos → Float
azimuth_numerator d w = d.cos ⊗ w.sin

-- by the arcsine of that numerator, and the denominator of sin aux1 and cos aux1
unfoldable pub azimuth_from : SinCos → SinCos → SinCos → Float → Float → Float
unfolding azimuth_branch azimuth_numerator
azimuth_from l d w arc denominator =
    let cos_numerator = l.cos ⊗ d.sin ⊕ l.sin ⊗ d.cos ⊗ w.cos in
    azimuth_branch (azimuth_numerator d w ⊘ denominator) (cos_numerator ⊘ denominator) (to_degrees (arc ⊘ denominator))

-- the cosine of the altitude, by way of its sine
unfoldable pub azimuth_denominator_of : Float → Float
azimuth_denominator_of altitude = cosine (arcsine (sine (to_radians altitude)))

unfoldable pub solar_azimuth : Float → Float → Float → Float → Float
unfolding azimuth_from azimuth_numerator azimuth_denominator_of sin_cos_of whole
solar_azimuth latitude declination angle altitude =
    let d = sin_cos_of declination in
    let w = sin_cos_of (whole 180 ⊖ angle) in
    azimuth_from (sin_cos_of latitude) d w (arcsine (azimuth_numerator d w)) (azimuth_denominator_of altitude)

-- ---- air mass

-- 1 / sine; below 10 degrees 1 / (sine + 0.15 · (altitude + 3.885) ^ −1.253)
unfoldable pub air_mass_by : Float → Float → Float
unfolding decimal whole
air_mass_by altitude sin_altitude =
    cond (le (whole 10) altitude) (whole 1 ⊘ sin_altitude)
    (whole 1 ⊘ (sin_altitude ⊕ decimal 15 2 ⊗ pow_minus1253 (altitude ⊕ decimal 3885 3)))

unfoldable pub air_mass_of : Float → Float
unfolding air_mass_by
air_mass_of altitude = air_mass_by altitude (sine (to_radians altitude))

-- ---- the hour

-- The sun at a site in an hour of the year, which counts from 0: its angles, and what later formulas reuse of them.
unfoldable pub hour_of : Site → ℕ → Hour
hour_of site hour =
    let day = day_of (hour / 24 + 1) in
    let shift = time_shift_of site.timezone site.longitude in
    let angle = hour_angle_of (solar_time (hour % 24) day.equation_of_time shift) in
    let altitude = solar_altitude site.latitude day.declination angle in
    record {
      hour_angle = sin_cos_of angle;
      altitude = altitude;
      azimuth = solar_azimuth site.latitude day.declination angle altitude;
      sin_altitude = sine (to_radians altitude);
      zenith = solar_zenith altitude;
      cos_zenith = cosine (to_radians (solar_zenith altitude));
      air_mass = air_mass_of altitude;
    }
