-- All that a sine or a cosine is computed from: to unfold this name unfolds them, so that the checker computes one at a given double.
use Rattle.std.proofs.Common.{ℕ}
use lib.Ieee.{add, sub, mul, div, neg, lt, le, to_unsigned}
use Rattle.doubles.specs.Arithmetic.{bits}
use Rattle.doubles.specs.Functions.{clamp, floor_of}
use Rattle.angles.specs.Sine.{is_angle, quarter_turns, quadrant, remainder, sine_sum, cosine_sum, sine_series, cosine_series, sine_at, cosine_at, sine, cosine}

unfoldable pub steps : ℕ
unfolding sine cosine is_angle quarter_turns quadrant remainder sine_series sine_sum cosine_series cosine_sum sine_at cosine_at clamp floor_of
    add sub mul div lt le neg to_unsigned bits
steps = 0
