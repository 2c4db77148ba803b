use mathlib.Core.Path.{ap}
use mathlib.Core.Bool.{◌&&◌}
use Prim.Native.Nat.{ℕ, ◌%◌}
use lib.Dec.{eqb, leb}
use lib.ListN.{length}
use Rattle.strips.specs.Strips.{count_fine}
use Rattle.strips.proofs.glazing.count_fine.Goals as goal

pub returns : goal.returns
unfolding count_fine
returns c = ap (λ (n : ℕ). eqb (length c.args.heights.now % 8) 0 && leb 1 n && leb n 12) c.word_count-n.ensures
