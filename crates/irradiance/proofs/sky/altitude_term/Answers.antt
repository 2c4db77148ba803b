use lib.Ieee.{of_bits}
use Rattle.irradiance.specs.Sky.{altitude_term}
use Rattle.irradiance.proofs.sky.altitude_term.Goals as goal

pub returns : goal.returns
unfolding altitude_term of_bits
returns c = rw c.cube.ensures
