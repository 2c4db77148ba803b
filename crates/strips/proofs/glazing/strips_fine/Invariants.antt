-- All strips so far were fine, and the strips that are left decide with them.
use Rattle.std.proofs.Common.{◌≡◌, ◌&&◌}
use Rattle.strips.specs.Strips.{strips_of, all_fine}
use Rattle.strips.proofs.Loops.{strips_left}
use Rattle.strips.proofs.glazing.strips_fine.Given as goal

abbrev pub invariant-loop-i : goal.invariant-loop-i
invariant-loop-i l = l.fine && all_fine (strips_left l.glazing l.heights l.i-end l.i l.base) ≡ all_fine (strips_of l.glazing l.heights)
