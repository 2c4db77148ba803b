use lib.Ieee.{of_bits}
use Rattle.irradiance.specs.Sky.{direct_beam}
use Rattle.irradiance.proofs.sky.init_direct_beam_radiation.Goals as goal
use Rattle.irradiance.proofs.sky.init_direct_beam_radiation.Goals.{else-direct_beam_conversion_needed-via-then-direct_beam_conversion_needed+else-sin_altitude, else-direct_beam_conversion_needed-via-else-direct_beam_conversion_needed}

pub returns-then-sin_altitude : goal.returns-then-sin_altitude
unfolding direct_beam of_bits
returns-then-sin_altitude c = rw (c.if-direct_beam_conversion_needed.true, c.if-sin_altitude.true)

pub returns-else-direct_beam_conversion_needed : goal.returns-else-direct_beam_conversion_needed
unfolding direct_beam of_bits
returns-else-direct_beam_conversion_needed c = elim c.else-direct_beam_conversion_needed.branch [
  | else-direct_beam_conversion_needed-via-then-direct_beam_conversion_needed+else-sin_altitude w ↦ rw (w.if-direct_beam_conversion_needed.true, w.if-sin_altitude.false)
  | else-direct_beam_conversion_needed-via-else-direct_beam_conversion_needed w ↦ rw w.if-direct_beam_conversion_needed.false
]
