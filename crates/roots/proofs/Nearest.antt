-- The root's double is nearer to the exact root than any other. Sizes are in units of 2^-1074, P = 2^K is the weight of the root's last digit. Assumes nothing.
use mathlib.Core.Path.{◌≡◌, refl, sym, ap, ◌∙◌, subst}
use mathlib.Core.Logic.{◌⊎◌, inl, inr}
use mathlib.Core.Bool.{Bool, true, false, not}
use Prim.Native.Nat.{ℕ, zero, suc, ◌+◌, ◌-◌, ◌*◌, ◌/◌, ◌%◌, ◌^◌, ◌≤◌, ◌<◌, zero-le}
use native.Mathlib.Nat.{mul_assoc, mul_right_comm, mul-pos, mul-le-mul, mul-le-mul_right, mul-lt-mul_of_pos_right, lt_of_mul-lt-mul_right, lt_of_le_of_lt, lt_of_lt_of_le, zero-lt-suc, le_refl, le_trans, le_of_eq, le_of_lt, eq-or-lt_of_le, eq_of_mul-eq-mul_right, add-sub_of_le}
use native.Mathlib.Omega.{arith}
use lib.Dec.{T, leb, leb→le, nleb→lt}
use lib.Pow.{pow-add, pow_pos}
use lib.Ieee.{Float, nan, inf, fin, binary64, down, of_bits, to_bits, fits}
use lib.Ieee.Bits.{of_bits-to_bits, of_bits-fits}
use lib.Ieee.Fits.{down_pos}
use lib.Ieee.Exact.{HasValue, odd_sign}
use lib.Ieee.Positive.{positive, positive_of_value}
use Rattle.roots.specs.Root.{nearest_root, square_root}
use Rattle.roots.specs.IsRoot.{Units, Nearest}
use Rattle.roots.proofs.Whole.{Near, near_squares}
use Rattle.roots.proofs.Scale.{Scaled, scaled, radicand, radicand_in, units_scaled, root_is, near, root_digits, four}
use Rattle.roots.proofs.Pattern.{hidden, infinite, subnormal, normal, odd_shift, pattern, positive_bits}
use Rattle.roots.proofs.Doubles.{double_scaled}

-- a size is one number
pub value_unique : (x : Float) (a b c : ℕ) → HasValue x false a c → HasValue x false b c → a ≡ b
value_unique nan a b c h k = absurd h
value_unique (inf s) a b c h k = absurd h
value_unique (fin s m e) a b c h k = eq_of_mul-eq-mul_right (down e) (down_pos e) a b (sym h.1 ∙ k.1)

-- ---- a double's size is a multiple of a power of two by a number of 53 digits

abbrev Grid : ℕ → Type 0
Grid c = (w : ℕ) × (j : ℕ) × (c ≡ w * 2 ^ j) × (w < 2 ^ 53)

pattern_grid : (b c : ℕ) → b < infinite → HasValue (of_bits binary64 b) false c (2 ^ 1074) → Grid c
pattern_grid b c h v = go (leb hidden b) (leb→le hidden b) (nleb→lt hidden b)
  where
    small : (b : ℕ) → b < hidden → b < 2 ^ 53
    small b l = omega arith

    lead : (b : ℕ) → hidden + b % hidden < 2 ^ 53
    lead b = omega arith

    once : (b : ℕ) → b ≡ b * 1
    once b = omega arith

    go : (t : Bool) → (T t → hidden ≤ b) → (T (not t) → b < hidden) → Grid c
    go true y n =
        let m = hidden + b % hidden in
        let x = b / hidden - 1 in
        (m, x, value_unique (of_bits binary64 b) c (m * 2 ^ x) (2 ^ 1074) v (subst (λ (z : Float). HasValue z false (m * 2 ^ x) (2 ^ 1074)) (sym (normal b (y tt) h)) (odd_sign 53 false m x 1074)), lead b)
    go false y n = (b, 0, value_unique (of_bits binary64 b) c b (2 ^ 1074) v (subnormal b (n tt)) ∙ once b, small b (n tt))

grid : (z : Float) (c : ℕ) → T (fits binary64 z) → HasValue z false c (2 ^ 1074) → Grid c
grid z zero f v = (0, 0, refl, zero-lt-suc _)
grid z (suc c) f v =
    pattern_grid (to_bits binary64 z) (suc c) (positive_bits z f (positive_of_value z (suc c) (2 ^ 1074) v (zero-lt-suc c))).1
    (subst (λ (y : Float). HasValue y false (suc c) (2 ^ 1074)) (sym (of_bits-to_bits binary64 z f)) v)

-- it is a multiple of P, or below 2^52 · P by P / 2
abbrev Gap : ℕ → ℕ → Type 0
Gap c P = ((v : ℕ) × (c ≡ v * P)) ⊎ (2 * c + P ≤ 2 ^ 53 * P)

gap : (c K : ℕ) → Grid c → Gap c (2 ^ K)
gap c K g = go (leb K j) (leb→le K j) (nleb→lt K j)
  where
    w : ℕ
    w = g.0

    j : ℕ
    j = g.1

    split : (i : ℕ) → suc j + i ≡ K → 2 ^ K ≡ 2 ^ j * (2 * 2 ^ i)
    split i e = ap (λ (x : ℕ). 2 ^ x) (sym e ∙ regroup j i) ∙ pow-add 2 j (1 + i) ∙ ap (λ (x : ℕ). 2 ^ j * x) (pow-add 2 1 i)
      where
        regroup : (j i : ℕ) → suc j + i ≡ j + (1 + i)
        regroup j i = omega arith

    fewer : (w s : ℕ) → w < 2 ^ 53 → 0 < s → 2 * w + 2 * s ≤ 2 ^ 53 * (2 * s)
    fewer w s h p = omega arith

    scale : (w q s : ℕ) → 2 * w + 2 * s ≤ 2 ^ 53 * (2 * s) → 2 * (w * q) + q * (2 * s) ≤ 2 ^ 53 * (q * (2 * s))
    scale w q s h = omega (arith, mul-le-mul_right q h)

    go : (b : Bool) → (T b → K ≤ j) → (T (not b) → j < K) → Gap c (2 ^ K)
    go true y n = inl (w * 2 ^ (j - K), g.2 ∙ ap (λ (x : ℕ). w * x) (ap (λ (x : ℕ). 2 ^ x) (sym (back j K (y tt))) ∙ pow-add 2 (j - K) K) ∙ sym (mul_assoc w (2 ^ (j - K)) (2 ^ K)))
      where
        back : (j K : ℕ) → K ≤ j → j - K + K ≡ j
        back j K h = omega arith
    go false y n =
        let i = K - suc j in
        let e : suc j + i ≡ K = add-sub_of_le (n tt) in
        inr (subst (λ (p : ℕ). 2 * c + p ≤ 2 ^ 53 * p) (sym (split i e)) (subst (λ (x : ℕ). 2 * x + 2 ^ j * (2 * 2 ^ i) ≤ 2 ^ 53 * (2 ^ j * (2 * 2 ^ i))) (sym g.2) (scale w (2 ^ j) (2 ^ i) (fewer w (2 ^ i) g.3 (pow_pos i)))))

-- ---- the doubles beside r · P

-- an order of numbers, squared and in units of P
swap : (u P : ℕ) → u * P * (u * P) ≡ u * u * (P * P)
swap u P = omega arith

squared : (x u n P : ℕ) → x ≤ u * P → u * u < n → 0 < P → x * x < n * (P * P)
squared x u n P h k p = lt_of_le_of_lt (le_trans (mul-le-mul h h) (le_of_eq (swap u P))) (mul-lt-mul_of_pos_right k (mul-pos p p))

squared_less : (x u n P : ℕ) → x < u * P → u * u ≤ n → x * x < n * (P * P)
squared_less x u n P h k =
    let q : 0 < u * P = lt_of_le_of_lt zero-le h in
    lt_of_lt_of_le (lt_of_le_of_lt (mul-le-mul (le_refl x) (le_of_lt h)) (mul-lt-mul_of_pos_right h q)) (le_trans (le_of_eq (swap u P)) (mul-le-mul_right (P * P) k))

squared_up : (x u n P : ℕ) → u * P ≤ x → n < u * u → 0 < P → n * (P * P) < x * x
squared_up x u n P h k p = lt_of_lt_of_le (mul-lt-mul_of_pos_right k (mul-pos p p)) (le_trans (le_of_eq (sym (swap u P))) (mul-le-mul h h))

-- the middle of r · P and a double a whole P below it
middle_below : (r P c : ℕ) → 0 < r → c + P ≤ r * P → r * P + c ≤ (2 * r - 1) * P
middle_below zero P c p h = omega arith
middle_below (suc t) P c p h = subst (λ (x : ℕ). suc t * P + c ≤ x * P) (sym (less t)) (omega arith)
  where
    less : (t : ℕ) → 2 * suc t - 1 ≡ 2 * t + 1
    less t = omega arith

module _ (n r P c : ℕ) (p : 0 < P) (lo : 2 ^ 52 ≤ r) (least : 4 ^ 52 ≤ n) (q : Near n r) (g : Gap c P) where
  whole_below : 2 ^ 52 < r → c < r * P → c + P ≤ r * P
  whole_below l h = go g
    where
      multiple : (v : ℕ) → c ≡ v * P → suc v * P ≤ r * P → c + P ≤ r * P
      multiple v e k = omega arith

      halved : 2 * c + P ≤ 2 ^ 53 * P → suc (2 ^ 52) * P ≤ r * P → c + P ≤ r * P
      halved a b = omega arith

      go : Gap c P → c + P ≤ r * P
      go (inl v) = multiple v.0 v.1 (mul-le-mul_right P (lt_of_mul-lt-mul_right P (subst (λ (x : ℕ). x < r * P) v.1 h)))
      go (inr a) = halved a (mul-le-mul_right P l)

  root_above : c < r * P → (r * P + c) * (r * P + c) < 4 * n * (P * P)
  root_above h = go (eq-or-lt_of_le lo)
    where
      double : (x : ℕ) → c < x * P → x * P + c < 2 * x * P
      double x l = omega arith

      four_times : (x : ℕ) → x ≡ 2 ^ 52 → 2 * x * (2 * x) ≤ 4 * n
      four_times x e = subst (λ (y : ℕ). 2 * y * (2 * y) ≤ 4 * n) (sym e) (omega (arith, least))

      go : (2 ^ 52 ≡ r) ⊎ (2 ^ 52 < r) → (r * P + c) * (r * P + c) < 4 * n * (P * P)
      go (inl e) = squared_less (r * P + c) (2 * r) (4 * n) P (double r h) (four_times r (sym e))
      go (inr l) = squared (r * P + c) (2 * r - 1) (4 * n) P (middle_below r P c (le_trans (zero-lt-suc _) lo) (whole_below l h)) (near_squares n r q).0 p

  whole_above : r * P < c → r * P + P ≤ c
  whole_above h = go g
    where
      multiple : (v : ℕ) → c ≡ v * P → suc r * P ≤ v * P → r * P + P ≤ c
      multiple v e k = omega arith

      no : 2 * c + P ≤ 2 ^ 53 * P → 2 ^ 52 * P ≤ r * P → r * P < c → r * P + P ≤ c
      no a b d = omega arith

      go : Gap c P → r * P + P ≤ c
      go (inl v) = multiple v.0 v.1 (mul-le-mul_right P (lt_of_mul-lt-mul_right P (subst (λ (x : ℕ). r * P < x) v.1 h)))
      go (inr a) = no a (mul-le-mul_right P lo) h

  root_below : r * P < c → 4 * n * (P * P) < (r * P + c) * (r * P + c)
  root_below h = squared_up (r * P + c) (2 * r + 1) (4 * n) P (middle (whole_above h)) (near_squares n r q).1 p
    where
      middle : r * P + P ≤ c → (2 * r + 1) * P ≤ r * P + c
      middle k = omega arith

-- ---- at x

-- the square of the root's weight, and 4x in its terms
weight_squared : (k : ℕ) → 2 ^ (k + 484) * 2 ^ (k + 484) ≡ 4 ^ k * 4 ^ 484
weight_squared k = sym (pow-add 2 (k + 484) (k + 484)) ∙ sym (four (k + 484)) ∙ pow-add 4 k 484

worth : (a w p : ℕ) → a * 2 ^ 54 ≡ w * p → 4 * (a * 2 ^ 1074) ≡ 4 * (w * 2 ^ 52) * (p * 4 ^ 484)
worth a w p e =
    ap (λ (y : ℕ). 4 * y)
    (sym (mul_assoc a (2 ^ 54) (2 ^ 1020))
    ∙ ap (λ (y : ℕ). y * 2 ^ 1020) e
    ∙ sym (mul_assoc (w * p) (2 ^ 52) (4 ^ 484))
    ∙ ap (λ (y : ℕ). y * 4 ^ 484) (mul_right_comm w p (2 ^ 52))
    ∙ mul_assoc (w * 2 ^ 52) p (4 ^ 484))
    ∙ sym (mul_assoc 4 (w * 2 ^ 52) (p * 4 ^ 484))

module _ (x : Float) (m f : ℕ) (s : Scaled x m f) where
  operand_size : 4 * radicand m f * (2 ^ (f / 2 + 484) * 2 ^ (f / 2 + 484)) ≡ 4 * (s.a * 2 ^ 1074)
  operand_size = ap (λ (y : ℕ). 4 * radicand m f * y) (weight_squared (f / 2)) ∙ sym (worth s.a (scaled m f) (4 ^ (f / 2)) (units_scaled x m f s))

  pub scaled_fits : T (fits binary64 (square_root x))
  scaled_fits =
      let r = nearest_root 53 (radicand m f) in
      let d = root_digits m f s.lo s.hi in
      subst (λ (y : Float). T (fits binary64 y)) (pattern r (f / 2) d.0 d.1 (half f s.range) ∙ sym (root_is x m f s)) (of_bits-fits binary64 ((f / 2 + 484) * hidden + r))
    where
      half : (f : ℕ) → f ≤ 2099 → f / 2 ≤ 1050
      half f h = omega arith

  scaled_nearest : Nearest x (square_root x)
  scaled_nearest =
      let w = radicand m f in
      let r = nearest_root 53 w in
      let P = 2 ^ (f / 2 + 484) in
      let p = pow_pos (f / 2 + 484) in
      let lo = (root_digits m f s.lo s.hi).0 in
      let least = (radicand_in m f s.lo s.hi).0 in
      let q = near m f s.lo s.hi in
      record {
        a = s.a;
        b = r * P;
        operand = s.value;
        root = subst (λ (y : Float). Units y (r * P)) (odd_shift r (f / 2) 590 484 ∙ sym (root_is x m f s)) (odd_sign 53 false r (f / 2 + 484) 1074);
        double = scaled_fits;
        above = λ z c F t l. subst (λ (y : ℕ). (r * P + c) * (r * P + c) < y) operand_size (root_above w r P c p lo least q (gap c (f / 2 + 484) (grid z c F t)) l);
        below = λ z c F t l. subst (λ (y : ℕ). y < (r * P + c) * (r * P + c)) operand_size (root_below w r P c p lo least q (gap c (f / 2 + 484) (grid z c F t)) l);
      }

pub square_root_nearest : (x : Float) → T (fits binary64 x) → T (positive x) → Nearest x (square_root x)
square_root_nearest x h p = let d = double_scaled x h p in scaled_nearest x d.m d.f d.scaled
