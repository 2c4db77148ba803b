use lib.Ieee.{of_bits}
use Rattle.sun.specs.Hour.{cut_altitude, solar_altitude}
use Rattle.sun.proofs.hour.init_solar_altitude.Goals as goal

pub returns-then-is_night : goal.returns-then-is_night
unfolding solar_altitude cut_altitude of_bits
returns-then-is_night c =
    let d = c.before.before in
    rw (
      ← d.sin_cos_of_degrees.ensures,
      ← d.sin_cos_of_degrees-2.ensures,
      ← d.to_radians.ensures,
      ← d.cos.ensures,
      ← d.altitude_sine-sine.ensures,
      ← d.asin.ensures,
      ← d.to_degrees-altitude.ensures,
      ← c.is_night.ensures,
      c.if-is_night.true,
    )

pub returns-else-is_night : goal.returns-else-is_night
unfolding solar_altitude cut_altitude of_bits
returns-else-is_night c =
    let d = c.before.before in
    rw (
      ← d.sin_cos_of_degrees.ensures,
      ← d.sin_cos_of_degrees-2.ensures,
      ← d.to_radians.ensures,
      ← d.cos.ensures,
      ← d.altitude_sine-sine.ensures,
      ← d.asin.ensures,
      ← d.to_degrees-altitude.ensures,
      ← c.is_night.ensures,
      c.if-is_night.false,
    )
