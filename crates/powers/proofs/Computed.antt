-- All that a power is computed from: to unfold this name unfolds them, so that the checker computes one at a given double.
use Prim.Native.Nat.{ℕ}
use lib.Ieee.{add, sub, mul, div, neg, lt, le}
use Rattle.doubles.specs.Arithmetic.{bits}
use Rattle.powers.specs.Power.{logarithm_of, power_of, power_by, pow_minus1253}

unfoldable pub steps : ℕ
unfolding pow_minus1253 power_by power_of logarithm_of add sub mul div lt le neg bits
steps = 0
