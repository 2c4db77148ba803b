-- What is left of the series, from the bracket so far, comes to the whole.
use Rattle.std.proofs.Common.{◌≡◌, ◌-◌}
use Rattle.doubles.specs.Arithmetic.{whole}
use Rattle.doubles.specs.Series.{horner}
use Rattle.powers.specs.Power.{exponential_step}
use Rattle.powers.proofs.power.Given as goal

abbrev pub invariant-loop-divisor : goal.invariant-loop-divisor
invariant-loop-divisor l = horner (exponential_step l.v) (16 - l.divisor-index) l.h ≡ horner (exponential_step l.v) 16 (whole 1)
