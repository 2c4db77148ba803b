use lib.Ieee.{of_bits}
use Rattle.irradiance.specs.Sky.{clearness}
use Rattle.irradiance.proofs.sky.init_dimensionless_clearness_parameter.Goals as goal

pub returns-then-diffuse_horizontal_radiation : goal.returns-then-diffuse_horizontal_radiation
unfolding clearness of_bits
returns-then-diffuse_horizontal_radiation c = rw c.if-diffuse_horizontal_radiation.true

pub returns : goal.returns
unfolding clearness of_bits
returns c = rw (c.if-diffuse_horizontal_radiation.false, c.altitude_term-term.ensures)
