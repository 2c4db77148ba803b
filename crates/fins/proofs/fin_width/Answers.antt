use Rattle.std.proofs.Common.{rules}
use lib.Ieee.{of_bits}
use Rattle.fins.specs.Fins.{fin_width}
use Rattle.fins.proofs.fin_width.Goals as goal

pub returns : goal.returns
unfolding fin_width of_bits
returns c = search rules
