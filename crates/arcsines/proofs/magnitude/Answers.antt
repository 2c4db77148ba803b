use lib.Ieee.{of_bits}
use Rattle.arcsines.specs.ArcsineParts.{magnitude}
use Rattle.arcsines.proofs.magnitude.Goals as goal

pub returns-then-a : goal.returns-then-a
unfolding magnitude of_bits
returns-then-a c = simp c.if-a.true

pub returns-else-a : goal.returns-else-a
unfolding magnitude of_bits
returns-else-a c = simp c.if-a.false
