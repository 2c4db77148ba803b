-- Every positive double is m · 2^f / 2^54 units of 2^-1074 with an m of 53 digits, by its pattern. Assumes nothing.
use mathlib.Core.Path.{◌≡◌, sym, ap, ◌∙◌, subst}
use mathlib.Core.Bool.{Bool, true, false, not}
use Prim.Native.Nat.{ℕ, suc, ◌+◌, ◌-◌, ◌*◌, ◌/◌, ◌%◌, ◌^◌, ◌≤◌, ◌<◌}
use native.Mathlib.Nat.{mul_assoc, mul-le-mul_right, le_trans, lt_of_not-le, not-le_of_lt}
use native.Mathlib.Omega.{arith}
use lib.Dec.{T, leb, leb→le, nleb→lt}
use lib.Pow.{pow-add, pow_mono, shl_lt}
use lib.Count.{count_leading_zeros, leading_top}
use lib.Ieee.{Float, binary64, of_bits, to_bits, fits}
use lib.Ieee.Bits.{of_bits-to_bits}
use lib.Ieee.Exact.{HasValue, odd_sign}
use lib.Ieee.Positive.{positive}
use Rattle.roots.proofs.Scale.{Scaled}
use Rattle.roots.proofs.Pattern.{hidden, infinite, subnormal, normal, positive_bits}

pub normal_scaled : (b : ℕ) → hidden ≤ b → b < infinite → Scaled (of_bits binary64 b) (hidden + b % hidden) (b / hidden + 53)
normal_scaled b l h =
    let m = hidden + b % hidden in
    let x = b / hidden - 1 in
    record {
      a = m * 2 ^ x;
      value = subst (λ (y : Float). HasValue y false (m * 2 ^ x) (2 ^ 1074)) (sym (normal b l h)) (odd_sign 53 false m x 1074);
      lo = omega arith;
      hi = omega arith;
      scale = mul_assoc m (2 ^ x) (2 ^ 54) ∙ ap (λ (p : ℕ). m * p) (sym (pow-add 2 x 54) ∙ ap (λ (e : ℕ). 2 ^ e) (one_back b l));
      range = omega arith;
    }
  where
    one_back : (b : ℕ) → hidden ≤ b → b / hidden - 1 + 54 ≡ b / hidden + 53
    one_back b l = omega arith

-- how far a subnormal double's digits are moved up
abbrev pub lift : ℕ → ℕ
lift b = count_leading_zeros 64 b - 11

-- the place of a subnormal's highest digit
highest : (b : ℕ) → 0 < b → b < hidden → (j : ℕ) × (j + lift b ≡ 52) × (lift b + 11 ≡ count_leading_zeros 64 b) × (2 ^ j ≤ b) × (b < 2 ^ suc j)
highest b p h =
    let t = leading_top 64 b p (wide b h) in
    let e = places (count_leading_zeros 64 b) t.0 t.1 (lt_of_not-le (λ (g : 52 ≤ t.0). not-le_of_lt h (le_trans (pow_mono g) t.2))) in
    (t.0, e.0, e.1, t.2, t.3)
  where
    wide : (b : ℕ) → b < hidden → b < 2 ^ 64
    wide b h = omega arith

    places : (z j : ℕ) → z + suc j ≡ 64 → j < 52 → (j + (z - 11) ≡ 52) × (z - 11 + 11 ≡ z)
    places z j e l = omega arith

pub lift_in : (b : ℕ) → 0 < b → b < hidden → (11 ≤ count_leading_zeros 64 b) × (lift b ≤ 52)
lift_in b p h =
    let t = highest b p h in
    bound (count_leading_zeros 64 b) t.0 (lift b) t.1 t.2
  where
    bound : (z j s : ℕ) → j + s ≡ 52 → s + 11 ≡ z → (11 ≤ z) × (s ≤ 52)
    bound z j s e d = omega arith

pub subnormal_scaled : (b : ℕ) → 0 < b → b < hidden → Scaled (of_bits binary64 b) (b * 2 ^ lift b) (54 - lift b)
subnormal_scaled b p h =
    let t = highest b p h in
    let s = lift b in
    record {
      a = b;
      value = subnormal b h;
      lo = subst (λ (x : ℕ). x ≤ b * 2 ^ s) (sym (pow-add 2 t.0 s) ∙ ap (λ (x : ℕ). 2 ^ x) t.1) (mul-le-mul_right (2 ^ s) t.3);
      hi = subst (λ (x : ℕ). b * 2 ^ s < 2 ^ x) (more t.0 s t.1) (shl_lt (suc t.0) s t.4);
      scale = ap (λ (x : ℕ). b * 2 ^ x) (sym (all s (lift_in b p h).1)) ∙ ap (λ (x : ℕ). b * x) (pow-add 2 s (54 - s)) ∙ sym (mul_assoc b (2 ^ s) (2 ^ (54 - s)));
      range = few s;
    }
  where
    more : (j s : ℕ) → j + s ≡ 52 → suc j + s ≡ 53
    more j s e = omega arith

    all : (s : ℕ) → s ≤ 52 → s + (54 - s) ≡ 54
    all s h = omega arith

    few : (s : ℕ) → 54 - s ≤ 2099
    few s = omega arith

-- every positive double, some way
pub record Some (x : Float) : Type 0 where
  pub m : ℕ
  pub f : ℕ
  pub scaled : Scaled x m f

pub double_scaled : (x : Float) → T (fits binary64 x) → T (positive x) → Some x
double_scaled x h p =
    let b = to_bits binary64 x in
    let w = positive_bits x h p in
    subst Some (of_bits-to_bits binary64 x h) (go b w.0 w.1 (leb hidden b) (leb→le hidden b) (nleb→lt hidden b))
  where
    go : (b : ℕ) → 0 < b → b < infinite → (c : Bool) → (T c → hidden ≤ b) → (T (not c) → b < hidden) → Some (of_bits binary64 b)
    go b l u true y n = record { m = hidden + b % hidden; f = b / hidden + 53; scaled = normal_scaled b (y tt) u }
    go b l u false y n = record { m = b * 2 ^ lift b; f = 54 - lift b; scaled = subnormal_scaled b l (n tt) }
