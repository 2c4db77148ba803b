use lib.Ieee.{of_bits}
use Rattle.sun.specs.Hour.{air_mass_by}
use Rattle.sun.proofs.hour.air_mass_by.Goals as goal

pub returns-then-altitude : goal.returns-then-altitude
unfolding air_mass_by of_bits
returns-then-altitude c = rw c.if-altitude.true

pub returns-else-altitude : goal.returns-else-altitude
unfolding air_mass_by of_bits
returns-else-altitude c = rw (c.if-altitude.false, c.pow_minus_1_253.ensures)
