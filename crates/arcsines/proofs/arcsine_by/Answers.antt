use lib.Ieee.{of_bits, neg}
use Rattle.arcsines.specs.Arcsine.{half_pi}
use Rattle.arcsines.specs.ArcsineParts.{arcsine_by}
use Rattle.arcsines.proofs.arcsine_by.Goals as goal

pub returns-then-a : goal.returns-then-a
unfolding arcsine_by half_pi of_bits neg
returns-then-a c = simp c.if-a.true

pub returns-then-a-2 : goal.returns-then-a-2
unfolding arcsine_by half_pi of_bits neg
returns-then-a-2 c = simp (c.if-a.false, c.if-a-2.true)

pub returns-then-a-3 : goal.returns-then-a-3
unfolding arcsine_by of_bits neg
returns-then-a-3 c = simp (c.if-a.false, c.if-a-2.false, c.if-a-3.true, c.arcsine_upward.ensures)

pub returns-else-a-3 : goal.returns-else-a-3
unfolding arcsine_by of_bits neg
returns-else-a-3 c = simp (c.if-a.false, c.if-a-2.false, c.if-a-3.false, c.arcsine_upward-else-a-3.ensures)
