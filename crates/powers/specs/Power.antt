-- u to the −1.253, as the paper's stand-ins define it. u is a number without a unit.
use Rattle.std.specs.Prelude.{cond, ◌&&◌, ℕ, ◌+◌, ◌*◌, ◌^◌, Float}
use Rattle.std.specs.Float.{nan}
use Rattle.std.specs.Float.Ieee.{neg, lt, le}
use Rattle.doubles.specs.Arithmetic.{◌⊕◌, ◌⊖◌, ◌⊗◌, ◌⊘◌, decimal, whole, bits}
use Rattle.doubles.specs.Series.{horner}

-- h ← 1/(2n+1) + (z·z)·h
unfoldable pub logarithm_step : Float → ℕ → Float → Float
unfolding whole
logarithm_step z n h = whole 1 ⊘ whole (2 * n + 1) ⊕ (z ⊗ z) ⊗ h

-- h = 1/23, n = 10 down to 0; l = m·3FE62E42FEFA39EF + (2·z)·h, with z = (w−1)/(w+1): the natural logarithm of w·2^m, where
-- 3FE62E42FEFA39EF is that of 2, 0.6931…
unfoldable pub logarithm_of : Float → Float → Float
unfolding horner logarithm_step whole bits
logarithm_of m w =
    let z = (w ⊖ whole 1) ⊘ (w ⊕ whole 1) in
    let h = logarithm_step z 0 (horner (logarithm_step z) 10 (whole 1 ⊘ whole 23)) in
    m ⊗ bits 0x3FE62E42FEFA39EF ⊕ (whole 2 ⊗ z) ⊗ h

-- h ← 1 + (v/n)·h
unfoldable pub exponential_step : Float → ℕ → Float → Float
unfolding whole
exponential_step v n h = whole 1 ⊕ (v ⊘ whole n) ⊗ h

unfoldable pub square : Float → Float
square x = x ⊗ x

-- v = (−1.253·l)/16; h = 1, n = 16 down to 1; square four times
unfoldable pub power_of : Float → Float
unfolding horner exponential_step decimal whole neg square
power_of l =
    let v = (neg (decimal 1253 3) ⊗ l) ⊘ whole 16 in
    square (square (square (square (horner (exponential_step v) 16 (whole 1)))))

-- w = u/2^m
unfoldable pub power_by : ℕ → Float → Float
unfolding whole
power_by m u = power_of (logarithm_of (whole m) (u ⊘ whole (2 ^ m)))

-- 3 ≤ u ≤ 14 (else NaN); m = 2 below 5.6, 3 below 11.2, else 4
unfoldable pub pow_minus1253 : Float → Float
unfolding whole decimal
pow_minus1253 u =
    cond (le (whole 3) u && le u (whole 14))
    (cond (lt u (decimal 56 1)) (power_by 2 u) (cond (lt u (decimal 112 1)) (power_by 3 u) (power_by 4 u)))
    nan
