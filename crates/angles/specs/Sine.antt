-- Sine, cosine and tangent of an angle in radians, as the paper's stand-ins define them.
use Rattle.std.specs.Prelude.{ℕ, zero, suc, ◌+◌, ◌-◌, ◌*◌, ◌%◌, Bool, cond, ◌&&◌, Float}
use Rattle.std.specs.Float.{nan}
use Rattle.std.specs.Float.Ieee.{neg, lt, le, to_unsigned}
use Rattle.doubles.specs.Arithmetic.{◌⊕◌, ◌⊖◌, ◌⊗◌, ◌⊘◌, decimal, whole, bits}
use Rattle.doubles.specs.Functions.{clamp, floor_of}
use Rattle.doubles.specs.Series.{horner}

-- |a| ≤ 64
unfoldable pub is_angle : Float → Bool
unfolding whole neg
is_angle a = le (neg (whole 64)) a && le a (whole 64)

-- k = floor(a·3FE45F306DC9C883 + 0.5), where 3FE45F306DC9C883 is 2/PI: the quarter turns nearest to a
unfoldable pub quarter_turns : Float → Float
unfolding bits decimal
quarter_turns a = floor_of (a ⊗ bits 0x3FE45F306DC9C883 ⊕ decimal 5 1)

-- k mod 4, 0 to 3, also for k below 0
unfoldable pub quadrant : Float → ℕ
unfolding whole
quadrant k = cond (lt k (whole 0)) ((4 - to_unsigned 64 (neg k) % 4) % 4) (to_unsigned 64 k % 4)

-- r = (a − k·3FF921FB54400000) − k·3DD0B4611A626331, the two parts of PI/2: 1.57079632673412… and 6.0771…e-11
unfoldable pub remainder : Float → Float → Float
unfolding bits
remainder a k = (a ⊖ k ⊗ bits 0x3FF921FB54400000) ⊖ k ⊗ bits 0x3DD0B4611A626331

-- h ← 1 − (t/(2n(2n+1)))·h
unfoldable pub sine_step : Float → ℕ → Float → Float
unfolding whole
sine_step t n h = whole 1 ⊖ (t ⊘ whole (2 * n * (2 * n + 1))) ⊗ h

-- h ← 1 − (t/((2n−1)2n))·h
unfoldable pub cosine_step : Float → ℕ → Float → Float
unfolding whole
cosine_step t n h = whole 1 ⊖ (t ⊘ whole ((2 * n - 1) * (2 * n))) ⊗ h

-- from h = 1, n = 8 down to 1
unfoldable pub sine_sum : Float → Float
unfolding horner sine_step whole
sine_sum t = horner (sine_step t) 8 (whole 1)

unfoldable pub cosine_sum : Float → Float
unfolding horner cosine_step whole
cosine_sum t = horner (cosine_step t) 8 (whole 1)

-- t = r·r, and the sine's times r at the end
unfoldable pub sine_series : Float → Float
sine_series r = sine_sum (r ⊗ r) ⊗ r

unfoldable pub cosine_series : Float → Float
cosine_series r = cosine_sum (r ⊗ r)

-- by k mod 4 sine is s, c, −s, −c
unfoldable pub sine_at : ℕ → Float → Float → Float
sine_at zero s c = s
sine_at (suc zero) s c = c
sine_at (suc (suc zero)) s c = neg s
sine_at (suc (suc (suc n))) s c = neg c

-- and cosine c, −s, −c, s
unfoldable pub cosine_at : ℕ → Float → Float → Float
cosine_at zero s c = c
cosine_at (suc zero) s c = neg s
cosine_at (suc (suc zero)) s c = neg c
cosine_at (suc (suc (suc n))) s c = s

-- what both have in common, from a to the result: results clamp to −1..1, and are NaN where a is no angle
unfoldable pub of_angle : (ℕ → Float → Float → Float) → Float → Float
of_angle at a =
    let k = quarter_turns a in
    let r = remainder a k in
    cond (is_angle a) (clamp (at (quadrant k) (sine_series r) (cosine_series r))) nan

unfoldable pub sine : Float → Float
unfolding of_angle
sine a = of_angle sine_at a

unfoldable pub cosine : Float → Float
unfolding of_angle
cosine a = of_angle cosine_at a

-- tangent is their quotient
unfoldable pub tangent : Float → Float
tangent a = sine a ⊘ cosine a
