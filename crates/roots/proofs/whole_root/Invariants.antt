-- `roots::whole_root` meets its contract. The invariant: r is the root of the part of h that gives its first i digits. Assumes nothing.
use mathlib.Core.Path.{◌≡◌}
use Rattle.roots.specs.Root.{whole_root}
use Rattle.roots.proofs.Whole.{part}
use Rattle.roots.proofs.whole_root.Given as goal

abbrev pub invariant-loop-i : goal.invariant-loop-i
invariant-loop-i l = l.r ≡ whole_root l.i (part l.h l.i)
