use lib.Ieee.{of_bits}
use Rattle.days.specs.Day.{extra_terrestrial_radiation_on}
use Rattle.days.proofs.init_extra_terrestrial_radiation.Goals as goal

pub returns : goal.returns
unfolding extra_terrestrial_radiation_on of_bits
returns c = rw (c.cos.ensures, c.to_radians.ensures)
