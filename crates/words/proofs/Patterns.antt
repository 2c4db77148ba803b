-- Which bit patterns are a NaN's, which is read as the one NaN there is, and the one that is written for it.
use mathlib.Core.Path.{◌≡◌, refl, sym, ◌∙◌, ap, subst}
use mathlib.Core.Bool.{Bool, true, false, not}
use Prim.Native.Nat.{ℕ, ◌%◌, ◌^◌, ◌≤◌}
use native.Mathlib.Omega.{arith}
use borrow.Author.Tests.{le-ltb}
use lib.Dec.{T}
use lib.Ieee.{Float, nan, inf, fin, binary64, is_nan, nan_bits, of_bits, to_bits}
use lib.Ieee.Bits.{nan_bits_is, nan_bits_above}

-- there is one NaN
pub is_nan_lem : (x : Float) → is_nan x ≡ true → x ≡ nan
unfolding is_nan
is_nan_lem nan e = refl
is_nan_lem (inf s) e = let z : ◌≡◌ {A = Bool} true false = sym e in cc
is_nan_lem (fin s m f) e = let z : ◌≡◌ {A = Bool} true false = sym e in cc

-- with the sign taken off, a pattern up to the infinity's is no NaN's
up_to_infinity : (w : ℕ) → w % 2 ^ 63 ≤ 0x7FF0_0000_0000_0000 → T (not (nan_bits binary64 w))
up_to_infinity w h = rw (nan_bits_above binary64 w ∙ le-ltb _ _ h) tt

-- so no NaN is read from a pattern up to the infinity's without a sign
pub low_pattern : (w : ℕ) → w ≤ 0x7FF0_0000_0000_0000 → T (not (is_nan (of_bits binary64 w)))
low_pattern w h = subst (λ (b : Bool). T (not b)) (nan_bits_is binary64 w) (up_to_infinity w (omega (arith, h)))

-- the one pattern that is written for a NaN
pub nan_pattern : to_bits binary64 nan ≡ 0x7FF8_0000_0000_0000
unfolding to_bits
nan_pattern = refl

-- that pattern is read as the NaN that x is
pub read_for_nan : (x : Float) → is_nan x ≡ true → of_bits binary64 0x7FF8_0000_0000_0000 ≡ x
unfolding of_bits
read_for_nan x e = sym (is_nan_lem x e)

pub written_for_nan : (x : Float) → is_nan x ≡ true → 0x7FF8_0000_0000_0000 ≡ to_bits binary64 x
written_for_nan x e = sym (ap (to_bits binary64) (is_nan_lem x e) ∙ nan_pattern)
