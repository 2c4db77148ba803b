use native.Mathlib.Omega.{arith}
use Rattle.lines.proofs.Numerals.{one_digit, two_digits}
use Rattle.lines.proofs.output.numeral.Goals as goal
use Rattle.lines.proofs.output.numeral.Goals.{then-n-ge10, else-n-ge10}

pub returns : goal.returns
returns c = elim c.if-n-ge10.branch [
  | then-n-ge10 w ↦ rw (w.bytes-is, w.count-is) (two_digits c.args.n (omega arith) c.requires)
  | else-n-ge10 w ↦ rw (w.bytes-is, w.count-is) (one_digit c.args.n (omega arith))
]
