use lib.Ieee.{of_bits, neg}
use Rattle.doubles.specs.Functions.{clamp}
use Rattle.doubles.proofs.clamped.Goals as goal

pub returns : goal.returns
unfolding clamp of_bits neg
returns c = c.clamp.ensures.value
