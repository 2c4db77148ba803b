use lib.Ieee.{of_bits}
use Rattle.extents.specs.Extents.{obstacle_height}
use Rattle.extents.proofs.obstacle_shading_height.Goals as goal

pub returns-then-hshade : goal.returns-then-hshade
unfolding obstacle_height of_bits
returns-then-hshade c = rw c.if-hshade.true

pub returns-else-hshade : goal.returns-else-hshade
unfolding obstacle_height of_bits
returns-else-hshade c = rw c.if-hshade.false
