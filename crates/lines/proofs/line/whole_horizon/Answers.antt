-- `whole_horizon` meets its contract.
use lib.Ieee.{of_bits}
use Rattle.doubles.specs.Arithmetic.{whole}
use Rattle.lines.specs.Line.{whole_horizon}
use borrow.Author.Rules.{rules}
use Rattle.lines.proofs.line.whole_horizon.Goals as goal

pub returns : goal.returns
unfolding whole_horizon whole of_bits
returns c = (c.store_double.ensures, search rules)
