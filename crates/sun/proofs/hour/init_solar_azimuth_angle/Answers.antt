use lib.Ieee.{of_bits}
use Rattle.sun.specs.Hour.{solar_azimuth, azimuth_numerator, azimuth_denominator_of}
use Rattle.sun.proofs.hour.init_solar_azimuth_angle.Goals as goal

pub returns : goal.returns
unfolding solar_azimuth azimuth_numerator azimuth_denominator_of of_bits
returns c =
    let d = c.before.before.before.before.before.before in
    rw (
      c.azimuth_from.ensures,
      c.cos.ensures,
      c.asin-2.ensures,
      c.asin.ensures,
      d.sin_cos_of_degrees.ensures,
      d.sin-sin_altitude.ensures,
      d.to_radians.ensures,
      d.sin_cos_of_degrees-w.ensures,
      d.sin_cos_of_degrees-d.ensures,
    )
