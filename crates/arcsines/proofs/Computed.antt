-- All that an arcsine or an arccosine is computed from: to unfold this name unfolds them, so that the checker computes one at a given double.
use Prim.Native.Nat.{ℕ}
use lib.Ieee.{add, sub, mul, div, neg, lt, le}
use Rattle.doubles.specs.Arithmetic.{bits}
use Rattle.doubles.specs.Functions.{clamp}
use Rattle.roots.specs.Root.{square_root}
use Rattle.arcsines.specs.Arcsine.{arcsine_series, half_pi, arcsine_upward, arcsine, arccosine}

unfoldable pub steps : ℕ
unfolding arcsine clamp arcsine_upward arcsine_series half_pi arccosine square_root add sub mul div lt le neg bits
steps = 0
