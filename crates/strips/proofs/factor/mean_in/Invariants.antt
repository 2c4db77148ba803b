-- The strips that are left, from the sums so far, come to the mean of all.
use Rattle.std.proofs.Common.{◌≡◌, Ok}
use Rattle.shading.specs.Factor.{factor_in}
use Rattle.strips.specs.Strips.{strips_of, mean_from, mean_factor}
use Rattle.strips.proofs.Loops.{strips_left}
use Rattle.strips.proofs.factor.mean_in.Given as goal

abbrev pub invariant-loop-i : goal.invariant-loop-i
invariant-loop-i l =
    mean_from (λ strip. factor_in strip l.sun l.window (Ok l.segment)) l.weighted l.total (strips_left l.glazing l.heights l.i-end l.i l.base)
    ≡ mean_factor (λ strip. factor_in strip l.sun l.window (Ok l.segment)) (strips_of l.glazing l.heights)
