use lib.Ieee.{of_bits}
use Rattle.sun.specs.Hour.{azimuth_branch}
use Rattle.sun.proofs.hour.azimuth_branch.Goals as goal

pub returns-then-aux2 : goal.returns-then-aux2
unfolding azimuth_branch of_bits
returns-then-aux2 c = rw (c.if-sin_aux1-cos_aux1.true, c.if-aux2.true)

pub returns-else-aux2 : goal.returns-else-aux2
unfolding azimuth_branch of_bits
returns-else-aux2 c = rw (c.if-sin_aux1-cos_aux1.true, c.if-aux2.false)

pub returns-then-cos_aux1 : goal.returns-then-cos_aux1
unfolding azimuth_branch of_bits
returns-then-cos_aux1 c = rw (c.if-sin_aux1-cos_aux1.false, c.if-cos_aux1.true)

pub returns-else-cos_aux1 : goal.returns-else-cos_aux1
unfolding azimuth_branch of_bits
returns-else-cos_aux1 c = rw (c.if-sin_aux1-cos_aux1.false, c.if-cos_aux1.false)
