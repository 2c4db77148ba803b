-- How a double is scaled so that its root has 53 digits: a · 2^54 is M · 4^k with 2^52 ≤ M < 2^54. That fixes k, and n is M · 2^52. Assumes nothing.
use mathlib.Core.Path.{◌≡◌, refl, sym, ap, ◌∙◌, subst}
use mathlib.Core.Bool.{true, false, true≢false}
use Prim.Native.Nat.{ℕ, zero, suc, ◌+◌, ◌*◌, ◌/◌, ◌%◌, ◌^◌, ◌≤◌, ◌<◌}
use native.Mathlib.Nat.{pow-suc, mul-le-mul, mul_assoc, mul_right_comm, zero-mul, mul-div_cancel, mul-pos, lt_irrefl, lt_of_lt_of_le, lt_of_not-le, mul-lt-mul_of_pos_right, le_refl}
use native.Mathlib.Omega.{arith}
use lib.Dec.{lit<}
use lib.Pow.{pow-add, pow_pos, pow_mono}
use lib.Ieee.{Float, nan, inf, fin, up, down, size, odd}
use lib.Ieee.Digits.{size-lt, size-le}
use lib.Ieee.Fits.{down_pos}
use lib.Ieee.Exact.{HasValue}
use Rattle.roots.proofs.Whole.{Near, nearest_near, near_ge, near_lt}
use Rattle.roots.specs.Root.{nearest_root, units_root, square_root}

pub four : (k : ℕ) → 4 ^ k ≡ 2 ^ (k + k)
four k = squares k ∙ sym (pow-add 2 k k)
  where
    step : (x p : ℕ) → x ≡ p * p → x * 4 ≡ p * 2 * (p * 2)
    step x p e = omega arith

    squares : (k : ℕ) → 4 ^ k ≡ 2 ^ k * 2 ^ k
    squares zero = refl
    squares (suc k) = rw (pow-suc 4 k, pow-suc 2 k) (step (4 ^ k) (2 ^ k) (squares k))

pub four_pos : (k : ℕ) → 0 < 4 ^ k
four_pos k = subst (λ (x : ℕ). 0 < x) (sym (four k)) (pow_pos (k + k))

-- a has 2k or 2k - 1 digits
half_of : (z j : ℕ) → z ≤ suc j + suc j → j + j < z → (z + 1) / 2 ≡ suc j
half_of z j h k = omega arith

module _ (a m : ℕ) (lo : 2 ^ 52 ≤ m) (hi : m < 2 ^ 54) where
  not_more : (p : ℕ) → 0 < p → a * 2 ^ 54 ≡ m * p → a < p
  not_more p q e = omega (arith, mul-lt-mul_of_pos_right hi q)

  not_fewer : (p : ℕ) → a < p → a * 2 ^ 54 ≡ m * (p * 4) → ⊥
  not_fewer p h e = omega (arith, mul-le-mul lo (le_refl p))

  digits_half : (k : ℕ) → a * 2 ^ 54 ≡ m * 4 ^ k → (size a + 1) / 2 ≡ k
  digits_half zero e = absurd (none e)
    where
      none : a * 2 ^ 54 ≡ m * 1 → ⊥
      none h = omega arith
  digits_half (suc j) e = half_of (size a) j
      (size-le a (suc j + suc j) (subst (λ (x : ℕ). a < x) (four (suc j)) (not_more (4 ^ suc j) (four_pos (suc j)) e)))
      (lt_of_not-le (λ (g : size a ≤ j + j). not_fewer (4 ^ j) (subst (λ (x : ℕ). a < x) (sym (four j)) (lt_of_lt_of_le (size-lt a) (pow_mono g))) (e ∙ ap (λ (x : ℕ). m * x) (pow-suc 4 j))))

  pub units_root_is : (k : ℕ) → a * 2 ^ 54 ≡ m * 4 ^ k → units_root a ≡ odd 53 false (nearest_root 53 (m * 2 ^ 52)) k 590
  unfolding units_root
  units_root_is k e =
      ap (λ (x : ℕ). odd 53 false (nearest_root 53 (a * 4 ^ 53 / 4 ^ x)) x 590) (digits_half k e)
      ∙ ap (λ (x : ℕ). odd 53 false (nearest_root 53 x) k 590) whole
    where
      whole : a * 4 ^ 53 / 4 ^ k ≡ m * 2 ^ 52
      whole = ap (λ (x : ℕ). x / 4 ^ k) (sym (mul_assoc a (2 ^ 54) (2 ^ 52)) ∙ ap (λ (x : ℕ). x * 2 ^ 52) e ∙ mul_right_comm m (4 ^ k) (2 ^ 52)) ∙ mul-div_cancel (m * 2 ^ 52) (four_pos k)

-- the root of x, worth a units of 2^-1074
pub square_root_units : (x : Float) (a : ℕ) → HasValue x false a (2 ^ 1074) → 0 < a → square_root x ≡ units_root a
unfolding square_root
square_root_units nan a h p = absurd h
square_root_units (inf false) a h p = absurd h
square_root_units (inf true) a h p = absurd h
square_root_units (fin true zero e) a h p = absurd (true≢false h.0)
square_root_units (fin true (suc m) e) a h p = absurd (true≢false h.0)
square_root_units (fin false zero e) a h p = absurd (lt_irrefl 0 (subst (λ (x : ℕ). 0 < x) (sym h.1 ∙ ap (λ (x : ℕ). x * 2 ^ 1074) (zero-mul (up e)) ∙ zero-mul (2 ^ 1074)) (mul-pos p (down_pos e))))
square_root_units (fin false (suc m) e) a h p = ap units_root (ap (λ (x : ℕ). x / down e) h.1 ∙ mul-div_cancel a (down_pos e))

-- ---- any odd power of two goes into M

-- 2^f is 2^(f % 2) · 4^(f / 2)
even_part : (f : ℕ) → 2 ^ f ≡ 2 ^ (f % 2) * 4 ^ (f / 2)
even_part f = ap (λ (x : ℕ). 2 ^ x) (parts f) ∙ pow-add 2 (f % 2) (f / 2 + f / 2) ∙ ap (λ (x : ℕ). 2 ^ (f % 2) * x) (sym (four (f / 2)))
  where
    parts : (f : ℕ) → f ≡ f % 2 + (f / 2 + f / 2)
    parts f = omega arith

-- M and n, for x worth m · 2^f / 2^54 units
abbrev pub scaled : ℕ → ℕ → ℕ
scaled m f = m * 2 ^ (f % 2)

abbrev pub radicand : ℕ → ℕ → ℕ
radicand m f = scaled m f * 2 ^ 52

module _ (m f : ℕ) (lo : 2 ^ 52 ≤ m) (hi : m < 2 ^ 53) where
  pub scaled_in : (2 ^ 52 ≤ scaled m f) × (scaled m f + 2 ≤ 2 ^ 54)
  scaled_in = go (f % 2) (below f)
    where
      below : (f : ℕ) → f % 2 < 2
      below f = omega arith

      go : (p : ℕ) → p < 2 → (2 ^ 52 ≤ m * 2 ^ p) × (m * 2 ^ p + 2 ≤ 2 ^ 54)
      go zero h = omega arith
      go (suc zero) h = omega arith
      go (suc (suc p)) h = omega arith

  pub radicand_in : (4 ^ 52 ≤ radicand m f) × (radicand m f + 2 ^ 53 ≤ 4 ^ 53)
  radicand_in = of (scaled m f) scaled_in.0 scaled_in.1
    where
      of : (w : ℕ) → 2 ^ 52 ≤ w → w + 2 ≤ 2 ^ 54 → (4 ^ 52 ≤ w * 2 ^ 52) × (w * 2 ^ 52 + 2 ^ 53 ≤ 4 ^ 53)
      of w h k = omega arith

  pub radicand_pos : 0 < radicand m f
  radicand_pos = lt_of_lt_of_le (lit< tt) radicand_in.0

  pub radicand_lt : radicand m f < 4 ^ 53
  radicand_lt = of (radicand m f) radicand_in.1
    where
      of : (n : ℕ) → n + 2 ^ 53 ≤ 4 ^ 53 → n < 4 ^ 53
      of n h = omega arith

  pub near : Near (radicand m f) (nearest_root 53 (radicand m f))
  near = nearest_near 53 (radicand m f) radicand_pos radicand_lt

  pub root_digits : (2 ^ 52 ≤ nearest_root 53 (radicand m f)) × (nearest_root 53 (radicand m f) < 2 ^ 53)
  root_digits =
      (near_ge (radicand m f) (nearest_root 53 (radicand m f)) (2 ^ 52) near radicand_in.0, near_lt (radicand m f) (nearest_root 53 (radicand m f)) (2 ^ 53) near radicand_in.1)

-- x is worth a units of 2^-1074, and a is m · 2^f / 2^54 with an m of 53 digits
pub record Scaled (x : Float) (m f : ℕ) : Type 0 where
  pub a : ℕ
  pub value : HasValue x false a (2 ^ 1074)
  pub lo : 2 ^ 52 ≤ m
  pub hi : m < 2 ^ 53
  pub scale : a * 2 ^ 54 ≡ m * 2 ^ f
  pub range : f ≤ 2099

module _ (x : Float) (m f : ℕ) (s : Scaled x m f) where
  pub units_pos : 0 < s.a
  units_pos = let e : s.a * 2 ^ 54 ≡ m * 2 ^ f = s.scale in omega (arith, mul-le-mul s.lo (pow_pos f))

  pub units_scaled : s.a * 2 ^ 54 ≡ scaled m f * 4 ^ (f / 2)
  units_scaled = s.scale ∙ ap (λ (p : ℕ). m * p) (even_part f) ∙ sym (mul_assoc m (2 ^ (f % 2)) (4 ^ (f / 2)))

  pub root_is : square_root x ≡ odd 53 false (nearest_root 53 (radicand m f)) (f / 2) 590
  root_is =
      let i = scaled_in m f s.lo s.hi in
      square_root_units x s.a s.value units_pos ∙ units_root_is s.a (scaled m f) i.0 (less (scaled m f) i.1) (f / 2) units_scaled
    where
      less : (w : ℕ) → w + 2 ≤ 2 ^ 54 → w < 2 ^ 54
      less w h = omega arith
