-- `of_the_sky` meets its contract: a number that is none of the group's gives NaN.
use Rattle.std.proofs.Common.{sym, arith}
use lib.Ieee.{of_bits, div}
use Rattle.kept_answers.proofs.Groups.{sky_none}
use Rattle.kept_answers.proofs.leaves.of_the_sky.Goals as goal

pub returns-in_default : goal.returns-in_default
unfolding of_bits div
returns-in_default c = let a = c.args in sym (sky_none a.x a.y a.z a.k (omega arith))
