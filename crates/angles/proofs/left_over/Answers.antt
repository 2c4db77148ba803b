use Rattle.std.proofs.Common.{refl}
use lib.Ieee.{of_bits}
use Rattle.angles.specs.Sine.{remainder}
use Rattle.angles.proofs.left_over.Goals as goal

pub returns : goal.returns
unfolding remainder of_bits
returns c = (refl, refl)
