-- The cosine of 85 degrees, as the checker computes it from the definitions. Assumes nothing.
use mathlib.Core.Path.{◌≡◌, refl}
use lib.Ieee.{add, sub, mul, div, lt, le, to_unsigned}
use Rattle.doubles.specs.Arithmetic.{whole, bits}
use Rattle.doubles.specs.Functions.{clamp, floor_of, to_radians}
use Rattle.angles.specs.Sine.{is_angle, quarter_turns, quadrant, remainder, sine_sum, cosine_sum, sine_series, cosine_series, cosine_at, cosine}
use Rattle.irradiance.specs.Surface.{cosine_of_degrees}

pub cosine_85 : cosine_of_degrees (whole 85) ≡ bits 0x3FB64FD6B8C280FF
unfolding cosine_of_degrees to_radians cosine is_angle quarter_turns quadrant remainder sine_series sine_sum cosine_series cosine_sum cosine_at clamp floor_of add sub mul div lt le to_unsigned whole bits
cosine_85 = refl
