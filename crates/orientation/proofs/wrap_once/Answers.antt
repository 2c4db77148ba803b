use lib.Ieee.{of_bits, neg}
use Rattle.orientation.specs.Orientation.{wrapped_once}
use Rattle.orientation.proofs.wrap_once.Goals as goal

pub returns-then-angle : goal.returns-then-angle
unfolding wrapped_once of_bits neg
returns-then-angle c = rw c.if-angle.true

pub returns-then-angle-2 : goal.returns-then-angle-2
unfolding wrapped_once of_bits neg
returns-then-angle-2 c = rw (c.if-angle.false, c.if-angle-2.true)

pub returns-else-angle-2 : goal.returns-else-angle-2
unfolding wrapped_once of_bits neg
returns-else-angle-2 c = rw (c.if-angle.false, c.if-angle-2.false)
