-- What is left of the series, from the bracket so far, comes to the whole.
use Rattle.std.proofs.Common.{◌≡◌, ◌-◌}
use Rattle.doubles.specs.Arithmetic.{◌⊘◌, whole}
use Rattle.doubles.specs.Series.{horner}
use Rattle.powers.proofs.Terms.{term_step}
use Rattle.powers.proofs.logarithm.Given as goal

abbrev pub invariant-loop-divisor : goal.invariant-loop-divisor
invariant-loop-divisor l = horner (term_step l.z) (11 - l.divisor-index) l.h ≡ horner (term_step l.z) 11 (whole 1 ⊘ whole 23)
