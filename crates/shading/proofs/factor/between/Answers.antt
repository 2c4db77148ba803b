use lib.Ieee.{of_bits}
use Rattle.shading.specs.Factor.{sunlit_between}
use Rattle.shading.proofs.factor.between.Goals as goal

pub returns : goal.returns
unfolding sunlit_between of_bits
returns c = c.max_of_2.ensures
