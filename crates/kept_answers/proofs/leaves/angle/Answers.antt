-- `angle` meets its contract: a number that is none of the group's gives NaN.
use Rattle.std.proofs.Common.{◌≤◌, sym, arith}
use lib.Ieee.{of_bits, div}
use Rattle.kept_answers.proofs.Groups.{angle_none}
use Rattle.kept_answers.proofs.leaves.angle.Goals as goal

pub returns-in_default : goal.returns-in_default
unfolding of_bits div
returns-in_default c = let a = c.args in sym (angle_none a.x a.k (λ (h : 1 ≤ a.k). omega arith))
