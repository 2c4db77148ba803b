use Rattle.lines.proofs.Values.{Read}
use Rattle.lines.proofs.line.values.Given as goal

abbrev pub invariant-loop-k : goal.invariant-loop-k
invariant-loop-k l = Read l.line l.values l.k
