-- From a whole number s at most h's root and near it to the whole number nearest to the root of h · 2^42, by one division. Assumes nothing.
use mathlib.Core.Path.{◌≡◌, sym}
use Prim.Native.Nat.{ℕ, zero, suc, ◌+◌, ◌-◌, ◌*◌, ◌/◌, ◌%◌, ◌^◌, ◌≤◌, ◌<◌}
use native.Mathlib.Nat.{mul-le-mul, div-le_of_le-mul, div-add-mod, mod-lt, lt_of_not-le, lt_of_le_of_lt, le_of_suc-le-suc, le_trans}
use native.Mathlib.Omega.{arith}
use Rattle.roots.specs.Root.{nearest_root}
use Rattle.roots.proofs.Whole.{Floor, Near, nearest_is}

-- s is at most h's root, and at most 16 below it
abbrev pub Lower : ℕ → ℕ → Type 0
Lower h s = (s * s ≤ h) × (h ≤ s * s + 32 * s)

pub floor_lower : (h r : ℕ) → Floor h r → Lower h r
floor_lower h zero f = omega arith
floor_lower h (suc r) f = omega arith

pub square-fits : (g : ℕ) → g < 2 ^ 32 → g * g < 2 ^ 64
square-fits g l = of g (mul-le-mul l l)
  where
    of : (g : ℕ) → suc g * suc g ≤ 2 ^ 32 * 2 ^ 32 → g * g < 2 ^ 64
    of g h = omega arith

square_root_lt : (s : ℕ) → s * s < 2 ^ 64 → s < 2 ^ 32
square_root_lt s h = lt_of_not-le (λ (g : 2 ^ 32 ≤ s). no s h (mul-le-mul g g))
  where
    no : (s : ℕ) → s * s < 2 ^ 64 → 2 ^ 32 * 2 ^ 32 ≤ s * s → ⊥
    no s h k = omega arith

square_root_ge : (s : ℕ) → 2 ^ 62 ≤ s * s + 32 * s → 2 ^ 30 ≤ s
square_root_ge s h = le_of_suc-le-suc (lt_of_not-le (λ (g : suc s ≤ 2 ^ 30). no s h g (mul-le-mul g g)))
  where
    no : (s : ℕ) → 2 ^ 62 ≤ s * s + 32 * s → suc s ≤ 2 ^ 30 → suc s * suc s ≤ 2 ^ 30 * 2 ^ 30 → ⊥
    no s h g k = omega arith

-- d divided by 2s, and the digits r
abbrev pub left : ℕ → ℕ → ℕ
left h s = (h - s * s) * 2097152

abbrev pub quotient : ℕ → ℕ → ℕ
quotient h s = left h s / (2 * s)

abbrev pub rest : ℕ → ℕ → ℕ
rest h s = left h s % (2 * s)

abbrev pub digits : ℕ → ℕ → ℕ
digits h s = s * 2097152 + quotient h s

module _ (h s : ℕ) (lo : 2 ^ 62 ≤ h) (hi : h < 2 ^ 64) (l : Lower h s) where
  pub lower_ge : 2 ^ 30 ≤ s
  lower_ge = square_root_ge s (le_trans lo l.1)

  pub lower_lt : s < 2 ^ 32
  lower_lt = square_root_lt s (lt_of_le_of_lt l.0 hi)

  pub divisor_pos : 0 < 2 * s
  divisor_pos = omega (arith, lower_ge)

  pub quotient_le : quotient h s ≤ 2 ^ 25
  quotient_le = div-le_of_le-mul (2 * s) (few h s l.0 l.1)
    where
      few : (h s : ℕ) → s * s ≤ h → h ≤ s * s + 32 * s → left h s ≤ 2 * s * 2 ^ 25
      few h s a b = omega arith

  pub rest_lt : rest h s < 2 * s
  rest_lt = mod-lt (left h s) divisor_pos

  pub square_le : quotient h s * quotient h s ≤ 2 ^ 50
  square_le = mul-le-mul quotient_le quotient_le

  -- h · 2^42 is r² + rest · 2^21 - q²
  pub divided : h * 2 ^ 42 + quotient h s * quotient h s ≡ digits h s * digits h s + rest h s * 2097152
  divided = sum h s (quotient h s) (rest h s) l.0 (div-add-mod (left h s) (2 * s))
    where
      sum : (h s q u : ℕ) → s * s ≤ h → 2 * s * q + u ≡ (h - s * s) * 2097152 → h * 2 ^ 42 + q * q ≡ (s * 2097152 + q) * (s * 2097152 + q) + u * 2097152
      sum h s q u a e = omega arith

  -- the same with h · 2^42, r, q² and rest · 2^21 as plain numbers
  stays : (n r q u : ℕ) → n + q ≡ r * r + u → q < r → u ≤ q + r → Near n r
  stays n r q u e a b = omega arith

  rises : (n r q u : ℕ) → n + q ≡ r * r + u → u < 2 * r → q + r < u → Near n (r + 1)
  rises n r q u e a b = omega arith

  digits_gt : quotient h s * quotient h s < digits h s
  digits_gt = of s (quotient h s * quotient h s) (quotient h s) lower_ge square_le
    where
      of : (s p q : ℕ) → 2 ^ 30 ≤ s → p ≤ 2 ^ 50 → p < s * 2097152 + q
      of s p q a b = omega arith

  pos : 0 < h * 2 ^ 42
  pos = omega (arith, lo)

  small : h * 2 ^ 42 < 4 ^ 53
  small = omega (arith, hi)

  pub stays_is : rest h s * 2097152 ≤ quotient h s * quotient h s + digits h s → digits h s ≡ nearest_root 53 (h * 2 ^ 42)
  stays_is t = sym (nearest_is 53 (h * 2 ^ 42) (digits h s) pos small (stays (h * 2 ^ 42) (digits h s) (quotient h s * quotient h s) (rest h s * 2097152) divided digits_gt t))

  pub rises_is : quotient h s * quotient h s + digits h s < rest h s * 2097152 → digits h s + 1 ≡ nearest_root 53 (h * 2 ^ 42)
  rises_is t = sym (nearest_is 53 (h * 2 ^ 42) (digits h s + 1) pos small (rises (h * 2 ^ 42) (digits h s) (quotient h s * quotient h s) (rest h s * 2097152) divided (of s (quotient h s) (rest h s) rest_lt) t))
    where
      of : (s q u : ℕ) → u < 2 * s → u * 2097152 < 2 * (s * 2097152 + q)
      of s q u a = omega arith
