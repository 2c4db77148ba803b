-- The sun of an hour taken apart, so that a run can order its parts: the hour angle, what depends on the altitude alone, which is the
-- same all night, and the rest. `hour_by_parts` of proofs/HourParts says that they come to `hour_of`.
use Rattle.std.specs.Prelude.{ℕ, Float}
use Rattle.doubles.specs.Arithmetic.{◌⊖◌, whole}
use Rattle.doubles.specs.Functions.{to_radians, to_degrees}
use Rattle.angles.specs.declared.SinCos.{SinCos}
use Rattle.angles.specs.Sine.{sine, cosine}
use Rattle.arcsines.specs.Arcsine.{arcsine}
use Rattle.sun.specs.Hour.{sin_cos_of, solar_time, hour_angle_of, altitude_sine, cut_altitude, solar_zenith, air_mass_of}
use Rattle.sun.specs.Hour.{azimuth_numerator, azimuth_denominator_of, azimuth_from}
use Rattle.sun.specs.declared.hour.AltitudeTerms.{AltitudeTerms}
use Rattle.sun.specs.declared.hour.HourAngles.{HourAngles}
use Rattle.sun.specs.declared.hour.Hour.{Hour}

unfoldable pub altitude_terms : Float → AltitudeTerms
altitude_terms altitude = record {
  altitude = altitude;
  sin = sine (to_radians altitude);
  azimuth_denominator = azimuth_denominator_of altitude;
  zenith = solar_zenith altitude;
  cos_zenith = cosine (to_radians (solar_zenith altitude));
  air_mass = air_mass_of altitude;
}

unfoldable pub hour_angles_by : Float → Float → ℕ → HourAngles
unfolding whole
hour_angles_by equation shift hour =
    let angle = hour_angle_of (solar_time hour equation shift) in
    record { hour_angle = sin_cos_of angle; supplement = sin_cos_of (whole 180 ⊖ angle) }

-- by the arcsine of the altitude's sine
unfoldable pub hour_from : SinCos → SinCos → HourAngles → Float → Hour
hour_from l d angles altitude_arcsine =
    let terms = altitude_terms (cut_altitude (to_degrees altitude_arcsine)) in
    let w = angles.supplement in
    record {
      hour_angle = angles.hour_angle;
      altitude = terms.altitude;
      azimuth = azimuth_from l d w (arcsine (azimuth_numerator d w)) terms.azimuth_denominator;
      sin_altitude = terms.sin;
      zenith = terms.zenith;
      cos_zenith = terms.cos_zenith;
      air_mass = terms.air_mass;
    }

-- the parts in their order
unfoldable pub hour_by : SinCos → SinCos → Float → Float → ℕ → Hour
hour_by l d equation shift hour =
    let angles = hour_angles_by equation shift hour in
    hour_from l d angles (arcsine (altitude_sine l d angles.hour_angle.cos))
