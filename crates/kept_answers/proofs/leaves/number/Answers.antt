-- `number` meets its contract: a number that is none of the group's gives NaN.
use Rattle.std.proofs.Common.{sym, arith}
use lib.Ieee.{of_bits, div}
use Rattle.kept_answers.proofs.Groups.{number_none}
use Rattle.kept_answers.proofs.leaves.number.Goals as goal

pub returns-in_default : goal.returns-in_default
unfolding of_bits div
returns-in_default c = let a = c.args in sym (number_none a.x a.y a.k (omega arith))
