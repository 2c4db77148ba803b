-- The whole root is the floor of the root, and the nearest whole number is the only one within a half of the root. Assumes nothing.
use mathlib.Core.Path.{◌≡◌, sym, ap, ◌∙◌, subst}
use mathlib.Core.Bool.{Bool, true, false, not, cond}
use Prim.Native.Nat.{ℕ, zero, suc, ◌+◌, ◌-◌, ◌*◌, ◌/◌, ◌^◌, ◌≤◌, ◌<◌}
use native.Mathlib.Nat.{mul_comm, pow-suc, mul-le-mul, le_antisymm, le_of_suc-le-suc, lt_of_not-le}
use native.Mathlib.Omega.{arith}
use native.Mathlib.Numerals.{add-one}
use lib.Pow.{shr-shr}
use lib.Dec.{T, leb, ltb, leb→le, nleb→lt, ltb→lt, nltb→le}
use Rattle.roots.specs.Root.{whole_root, nearest_root}

-- r is the floor of the root of n
abbrev pub Floor : ℕ → ℕ → Type 0
Floor n r = (r * r ≤ n) × (n < suc r * suc r)

quarter_lt : (n p : ℕ) → n < p * 4 → n / 4 < p
quarter_lt n p h = omega arith

double_square : (n w : ℕ) → Floor (n / 4) w → (2 * w * (2 * w) ≤ n) × (n < suc (suc (2 * w)) * suc (suc (2 * w)))
double_square n w h = omega arith

pub whole_floor : (d n : ℕ) → n < 4 ^ d → Floor n (whole_root d n)
unfolding whole_root
whole_floor zero n h = omega arith
whole_floor (suc d) n h =
    let w = whole_root d (n / 4) in
    let g = double_square n w (whole_floor d (n / 4) (quarter_lt n (4 ^ d) (subst (λ (p : ℕ). n < p) (pow-suc 4 d) h))) in
    digit (2 * w) g
  where
    digit : (r : ℕ) → (r * r ≤ n) × (n < suc (suc r) * suc (suc r)) → Floor n (cond (leb (suc r * suc r) n) (suc r) r)
    digit r g = go (leb (suc r * suc r) n) (leb→le (suc r * suc r) n) (nleb→lt (suc r * suc r) n)
      where
        go : (b : Bool) → (T b → suc r * suc r ≤ n) → (T (not b) → n < suc r * suc r) → Floor n (cond b (suc r) r)
        go true p q = (p tt, g.1)
        go false p q = (g.0, q tt)

pub whole_lt : (d n : ℕ) → whole_root d n < 2 ^ d
unfolding whole_root
whole_lt zero n = omega arith
whole_lt (suc d) n = subst (λ (p : ℕ). digit (whole_root d (n / 4)) < p) (sym (pow-suc 2 d)) (go (leb (suc (2 * whole_root d (n / 4)) * suc (2 * whole_root d (n / 4))) n) (whole_root d (n / 4)) (2 ^ d) (whole_lt d (n / 4)))
  where
    digit : ℕ → ℕ
    digit w = cond (leb (suc (2 * w) * suc (2 * w)) n) (suc (2 * w)) (2 * w)

    go : (b : Bool) (w p : ℕ) → w < p → cond b (suc (2 * w)) (2 * w) < p * 2
    go true w p h = omega arith
    go false w p h = omega arith

-- one digit more of h's root, for h of 64 digits
next_part : (h i : ℕ) → i < 32 → h / 2 ^ (64 - 2 * (i + 1)) / 4 ≡ h / 2 ^ (64 - 2 * i)
next_part h i l = shr-shr h (64 - 2 * (i + 1)) 2 ∙ ap (λ (x : ℕ). h / 2 ^ x) (places i l)
  where
    places : (i : ℕ) → i < 32 → 64 - 2 * (i + 1) + 2 ≡ 64 - 2 * i
    places i l = omega arith

-- the part of h that gives its root's first i digits
abbrev pub part : ℕ → ℕ → ℕ
part h i = h / 2 ^ (64 - 2 * i)

pub next_digit : (h i r : ℕ) → i < 32 → r ≡ whole_root i (part h i) → whole_root (i + 1) (part h (i + 1)) ≡ cond (leb ((r * 2 + 1) * (r * 2 + 1)) (part h (i + 1))) (r * 2 + 1) (r * 2)
unfolding whole_root
next_digit h i r l e =
    ap (λ (x : ℕ). whole_root x (part h (i + 1))) (add-one i)
    ∙ ap (λ (w : ℕ). digit (2 * w)) (ap (whole_root i) (next_part h i l) ∙ sym e)
    ∙ ap digit (mul_comm 2 r)
    ∙ ap (λ (x : ℕ). cond (leb (x * x) (part h (i + 1))) x (r * 2)) (sym (add-one (r * 2)))
  where
    digit : ℕ → ℕ
    digit x = cond (leb (suc x * suc x) (part h (i + 1))) (suc x) x

-- r is within a half of the root of n: (2r - 1)² < 4n < (2r + 1)², with the fourths dropped, which no whole numbers can make up for
abbrev pub Near : ℕ → ℕ → Type 0
Near n r = (r * r < n + r) × (n ≤ r * r + r)

pub le_of_not_lt : {r s : ℕ} → (s < r → ⊥) → r ≤ s
le_of_not_lt h = le_of_suc-le-suc (lt_of_not-le h)

-- a whole number above a near one is too far above the root
apart : (n r s : ℕ) → Near n r → Near n s → s < r → ⊥
apart n zero s h k l = omega arith
apart n (suc p) s h k l = omega (arith, mul-le-mul l (le_of_suc-le-suc l))

pub near_unique : (n r s : ℕ) → Near n r → Near n s → r ≡ s
near_unique n r s h k = le_antisymm (le_of_not_lt (apart n r s h k)) (le_of_not_lt (apart n s r k h))

near_up : (n r : ℕ) → Floor n r → r < n - r * r → Near n (suc r)
near_up n r f g = omega arith

near_down : (n r : ℕ) → 0 < n → Floor n r → n - r * r ≤ r → Near n r
near_down n zero p f g = omega arith
near_down n (suc r) p f g = omega arith

pub nearest_near : (d n : ℕ) → 0 < n → n < 4 ^ d → Near n (nearest_root d n)
unfolding nearest_root
nearest_near d n p h = pick (whole_root d n) (whole_floor d n h)
  where
    pick : (r : ℕ) → Floor n r → Near n (cond (ltb r (n - r * r)) (suc r) r)
    pick r f = go (ltb r (n - r * r)) (ltb→lt r (n - r * r)) (nltb→le r (n - r * r))
      where
        go : (b : Bool) → (T b → r < n - r * r) → (T (not b) → n - r * r ≤ r) → Near n (cond b (suc r) r)
        go true a b = near_up n r f (a tt)
        go false a b = near_down n r p f (b tt)

pub nearest_is : (d n r : ℕ) → 0 < n → n < 4 ^ d → Near n r → nearest_root d n ≡ r
nearest_is d n r p h k = near_unique n (nearest_root d n) r (nearest_near d n p h) k

-- what `Near` says, with the halves doubled
pub near_squares : (n r : ℕ) → Near n r → ((2 * r - 1) * (2 * r - 1) < 4 * n) × (4 * n < (2 * r + 1) * (2 * r + 1))
near_squares n zero h = omega arith
near_squares n (suc p) h = subst (λ (x : ℕ). (x * x < 4 * n) × (4 * n < (2 * suc p + 1) * (2 * suc p + 1))) (sym (less p)) (omega arith)
  where
    less : (p : ℕ) → 2 * suc p - 1 ≡ 2 * p + 1
    less p = omega arith

-- a near number has as many digits as n leaves it
pub near_ge : (n r b : ℕ) → Near n r → b * b ≤ n → b ≤ r
near_ge n r b h l = le_of_not_lt (λ (g : r < b). low r b h l g)
  where
    low : (r b : ℕ) → Near n r → b * b ≤ n → r < b → ⊥
    low r zero h l g = omega arith
    low r (suc c) h l g = omega (arith, mul-le-mul g (le_of_suc-le-suc g))

pub near_lt : (n r b : ℕ) → Near n r → n + b ≤ b * b → r < b
near_lt n r b h l = lt_of_not-le (λ (g : b ≤ r). high r b h l g)
  where
    high : (r b : ℕ) → Near n r → n + b ≤ b * b → b ≤ r → ⊥
    high zero b h l g = omega arith
    high (suc p) zero h l g = omega arith
    high (suc p) (suc c) h l g = omega (arith, mul-le-mul g (le_of_suc-le-suc g))
