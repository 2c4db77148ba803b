use lib.Ieee.{of_bits}
use Rattle.extents.specs.Extents.{overhang_height}
use Rattle.extents.proofs.overhang_shading_height.Goals as goal

pub returns : goal.returns
unfolding overhang_height of_bits
returns c = rw c.float_max.ensures
