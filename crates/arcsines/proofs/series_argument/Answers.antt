use lib.Ieee.{of_bits}
use Rattle.arcsines.specs.ArcsineParts.{series_argument}
use Rattle.arcsines.proofs.series_argument.Goals as goal

pub returns-then-m : goal.returns-then-m
unfolding series_argument of_bits
returns-then-m c = simp c.if-m.true

pub returns-else-m : goal.returns-else-m
unfolding series_argument of_bits
returns-else-m c = simp (c.if-m.false, c.sqrt.ensures)
