use lib.Ieee.{of_bits}
use Rattle.irradiance.specs.Parts.{irradiance_of}
use Rattle.irradiance.proofs.parts.calculated_direct_diffuse_total_irradiance.Goals as goal

pub returns : goal.returns
unfolding irradiance_of of_bits
returns c = rw (c.direct_irradiance.ensures, c.ground_reflection_irradiance-from_ground.ensures)
