use lib.Ieee.{of_bits}
use Rattle.irradiance.specs.Parts.{direct_irradiance}
use Rattle.irradiance.proofs.parts.direct_irradiance.Goals as goal

pub returns-then-direct : goal.returns-then-direct
unfolding direct_irradiance of_bits
returns-then-direct c = rw c.if-direct.true

pub returns-else-direct : goal.returns-else-direct
unfolding direct_irradiance of_bits
returns-else-direct c = rw c.if-direct.false
