-- `roots::guess` meets its contract: the patterns are no NaN's, and the result has 32 digits. Assumes nothing.
use native.Mathlib.Omega.{arith}
use Rattle.roots.proofs.Pattern.{finite_bits}
use Rattle.roots.proofs.guess.Goals as goal

pub float_from_bits-x : goal.float_from_bits-x
float_from_bits-x c = finite_bits _ (omega arith)

pub float_from_bits-y0 : goal.float_from_bits-y0
float_from_bits-y0 c = finite_bits _ (omega arith)
