-- Which fraction each operation rounds. `Rounded z p n c` says that z is (p − n) / c rounded to a double.
-- One lemma for each operation on finite doubles says so of its result, and one law says that roundings are in the order of
-- their fractions: what an operation's order needs more is an inequality of natural numbers. Products commute. Assumes nothing.
use Rattle.std.proofs.Common.{◌≡◌, ℕ, zero, suc, ◌+◌, ◌-◌, ◌*◌, ◌/◌, ◌%◌, ◌^◌, ◌<◌, ◌≤◌, Bool, true, false, cond, not, T, eqb, ltb, pos, sym, refl, ap, ◌∙◌, subst, inl, inr, lt_irrefl, mul_comm, eq-zero-or-pos, mul-pos, arith, lit<, eqb→eq, ltb→lt, nltb→le}
use Prim.Native.Nat.{compare}
use lib.Ieee.{Float, nan, inf, fin, binary64, unlike, up, down, odd, units, size, nearest, round, sum, add, mul, div, neg, le}
use lib.Ieee.Fits.{round_is}
use lib.Ieee.Order.{round_mono}
use lib.Ieee.Positive.{den, positive}
use lib.Ieee.Scale.{finite, round_same}
use Rattle.doubles.specs.Arithmetic.{◌⊕◌, ◌⊗◌, ◌⊘◌}
use Rattle.doubles.specs.Order.{◌≼◌}
use Rattle.doubles.proofs.Order.{positive_part, negative_part, le_trans, neg-le}

-- ---- rounding with the other sign

odd_neg : (d q k l : ℕ) → odd d true q k l ≡ neg (odd d false q k l)
unfolding odd neg
odd_neg d zero k l = refl
odd_neg d (suc q) k l = refl

units_neg : (q k : ℕ) → units binary64 true q k ≡ neg (units binary64 false q k)
unfolding units neg
units_neg q k = go (ltb (q * 2 ^ k) (2 ^ 2098))
  where
    go : (b : Bool) → cond b (odd 54 true q k 1074) (inf true) ≡ neg (cond b (odd 54 false q k 1074) (inf false))
    go true = odd_neg 54 q k 1074
    go false = refl

pub round-neg : (a c : ℕ) → round binary64 true a c ≡ neg (round binary64 false a c)
round-neg a c =
    let n = a * 2 ^ 1074 in
    let k = size (n / c) - 53 in
    let u = c * 2 ^ k in
    round_is binary64 true a c ∙ units_neg (nearest (n / u) (compare (n % u * 2) u)) k ∙ sym (ap neg (round_is binary64 false a c))

-- ---- the order of roundings

pub zero-round : (c : ℕ) → 0 < c → round binary64 false 0 c ≡ fin false 0 (pos 0)
zero-round c C = round_same binary64 false 0 c 0 1 C (lit< tt) (omega arith) ∙ at_one
  where
    at_one : round binary64 false 0 1 ≡ fin false 0 (pos 0)
    at_one = unfold round in refl

pub round_nonneg : (k c : ℕ) → 0 < c → fin false 0 (pos 0) ≼ round binary64 false k c
round_nonneg k c C = record {
  holds = subst (λ (x : Float). T (le x (round binary64 false k c))) (zero-round 1 (lit< tt)) (round_mono binary64 0 1 k c (lit< tt) C (omega arith));
}

signs : (j c k d : ℕ) → 0 < c → 0 < d → round binary64 true j c ≼ round binary64 false k d
unfolding neg le
signs j c k d C D =
    let z : fin true 0 (pos 0) ≼ fin false 0 (pos 0) = record { holds = tt } in
    rw (round-neg j c) (le_trans (le_trans (neg-le (round_nonneg j c C)) z) (round_nonneg k d D))

-- z is (p − n) / c, rounded. A zero may have either sign
pub data Rounded (z : Float) (p n c : ℕ) : Type 0 where
  plus : (k : ℕ) → p ≡ n + k → z ≡ round binary64 false k c → Rounded z p n c
  minus : (k : ℕ) → n ≡ p + k → z ≡ round binary64 true k c → Rounded z p n c

-- a product of 0 whose second factor is not 0
pub first_zero : (k c : ℕ) → 0 < c → k * c ≡ 0 → k ≡ 0
first_zero k c C h = elim (eq-zero-or-pos k) [ inl e ↦ e | inr p ↦ absurd (lt_irrefl 0 (omega (arith, mul-pos p C))) ]

module _ (z w : Float) (p n c p' n' c' : ℕ) (C : 0 < c) (C' : 0 < c') where
  pub rounded_mono : Rounded z p n c → Rounded w p' n' c' → p * c' + n' * c ≤ p' * c + n * c' → z ≼ w
  unfolding neg le
  rounded_mono (plus k e f) (plus j g h) l =
      let o : k * c' ≤ j * c = omega (arith, ap (λ (x : ℕ). x * c') e, ap (λ (x : ℕ). x * c) g) in
      rw (f, h) (record { holds = round_mono binary64 k c j c' C C' o })
  rounded_mono (minus k e f) (plus j g h) l = rw (f, h) (signs k c j c' C C')
  rounded_mono (plus k e f) (minus j g h) l =
      let k0 : k ≡ 0 = first_zero k c' C' (omega (arith, ap (λ (x : ℕ). x * c') e, ap (λ (x : ℕ). x * c) g)) in
      let j0 : j ≡ 0 = first_zero j c C (omega (arith, ap (λ (x : ℕ). x * c') e, ap (λ (x : ℕ). x * c) g)) in
      rw (f, h, k0, j0, round-neg 0 c', zero-round c C, zero-round c' C') (record { holds = tt })
  rounded_mono (minus k e f) (minus j g h) l =
      let o : j * c ≤ k * c' = omega (arith, ap (λ (x : ℕ). x * c') e, ap (λ (x : ℕ). x * c) g) in
      let q : round binary64 false j c' ≼ round binary64 false k c = record { holds = round_mono binary64 j c' k c C' C o } in
      rw (f, h, round-neg k c, round-neg j c') (neg-le q)

-- ---- which fraction each operation rounds

pub add_rounds : (x y : Float) → T (finite x) → T (finite y)
    → Rounded (x ⊕ y) (positive_part x * den y + positive_part y * den x) (negative_part x * den y + negative_part y * den x) (den x * den y)
unfolding add
add_rounds nan y f g = absurd f
add_rounds (inf s) y f g = absurd f
add_rounds (fin s m e) nan f g = absurd g
add_rounds (fin s m e) (inf t) f g = absurd g
add_rounds (fin false m e) (fin false n d) f g = plus (m * up e * down d + n * up d * down e) (omega arith) refl
add_rounds (fin true m e) (fin true n d) f g = minus (m * up e * down d + n * up d * down e) (omega arith) refl
add_rounds (fin false m e) (fin true n d) f g = go (m * up e * down d) (n * up d * down e) (down e * down d) refl refl
  where
    pick : (a b c p q : ℕ) → p ≡ a → q ≡ b → (t : Bool) → (T t → a < b) → (T (not t) → b ≤ a)
        → Rounded (cond t (round binary64 true (b - a) c) (round binary64 false (a - b) c)) p q c
    pick a b c p q P Q true h k = let l = h tt in minus (b - a) (omega arith) refl
    pick a b c p q P Q false h k = let l = k tt in plus (a - b) (omega arith) refl

    go : (a b c : ℕ) → m * up e * down d ≡ a → n * up d * down e ≡ b
        → Rounded (sum binary64 false a true b c) (m * up e * down d + 0 * down e) (0 * down d + n * up d * down e) c
    go a b c P Q = pick a b c (m * up e * down d + 0 * down e) (0 * down d + n * up d * down e) (omega arith) (omega arith) (ltb a b) (ltb→lt a b) (nltb→le a b)
add_rounds (fin true m e) (fin false n d) f g = go (m * up e * down d) (n * up d * down e) (down e * down d) refl refl
  where
    pick : (a b c p q : ℕ) → p ≡ b → q ≡ a → (t u : Bool) → (T t → a < b) → (T (not t) → b ≤ a) → (T u → b < a) → (T (not u) → a ≤ b)
        → Rounded (cond t (round binary64 false (b - a) c) (round binary64 u (a - b) c)) p q c
    pick a b c p q P Q true u h k i j = let l = h tt in plus (b - a) (omega arith) refl
    pick a b c p q P Q false true h k i j = let l = k tt in minus (a - b) (omega arith) refl
    pick a b c p q P Q false false h k i j = let l = k tt in let r = j tt in plus (a - b) (omega arith) refl

    go : (a b c : ℕ) → m * up e * down d ≡ a → n * up d * down e ≡ b
        → Rounded (sum binary64 true a false b c) (0 * down d + n * up d * down e) (m * up e * down d + 0 * down e) c
    go a b c P Q =
        pick a b c (0 * down d + n * up d * down e) (m * up e * down d + 0 * down e) (omega arith) (omega arith) (ltb a b) (ltb b a) (ltb→lt a b) (nltb→le a b)
        (ltb→lt b a) (nltb→le b a)

pub mul_rounds : (x y : Float) → T (finite x) → T (finite y)
    → Rounded (x ⊗ y) (positive_part x * positive_part y + negative_part x * negative_part y) (positive_part x * negative_part y + negative_part x * positive_part y)
    (den x * den y)
unfolding mul
mul_rounds nan y f g = absurd f
mul_rounds (inf s) y f g = absurd f
mul_rounds (fin s m e) nan f g = absurd g
mul_rounds (fin s m e) (inf t) f g = absurd g
mul_rounds (fin false m e) (fin false n d) f g = plus (m * up e * (n * up d)) (omega arith) refl
mul_rounds (fin true m e) (fin true n d) f g = plus (m * up e * (n * up d)) (omega arith) refl
mul_rounds (fin false m e) (fin true n d) f g = minus (m * up e * (n * up d)) (omega arith) refl
mul_rounds (fin true m e) (fin false n d) f g = minus (m * up e * (n * up d)) (omega arith) refl

unlike_comm : (s t : Bool) → unlike s t ≡ unlike t s
unlike_comm false false = refl
unlike_comm false true = refl
unlike_comm true false = refl
unlike_comm true true = refl

-- a product is the same whichever factor stands first
pub product_comm : (x y : Float) → x ⊗ y ≡ y ⊗ x
unfolding mul
product_comm nan nan = refl
product_comm nan (inf t) = refl
product_comm nan (fin t n d) = refl
product_comm (inf s) nan = refl
product_comm (inf s) (inf t) = ap inf (unlike_comm s t)
product_comm (inf s) (fin t n d) = ap (λ (u : Bool). cond (eqb n 0) nan (inf u)) (unlike_comm s t)
product_comm (fin s m e) nan = refl
product_comm (fin s m e) (inf t) = ap (λ (u : Bool). cond (eqb m 0) nan (inf u)) (unlike_comm s t)
product_comm (fin s m e) (fin t n d) = rw (unlike_comm s t, mul_comm (m * up e) (n * up d), mul_comm (down e) (down d)) refl

-- by a divisor that is finite and above zero
pub div_rounds : (x y : Float) → T (finite x) → T (positive y) → Rounded (x ⊘ y) (positive_part x * den y) (negative_part x * den y) (positive_part y * den x)
unfolding div
div_rounds nan y f g = absurd f
div_rounds (inf s) y f g = absurd f
div_rounds (fin s m e) nan f g = absurd g
div_rounds (fin s m e) (inf t) f g = absurd g
div_rounds (fin s m e) (fin true n d) f g = absurd g
div_rounds (fin false m e) (fin false n d) f g = go (eqb n 0) (eqb→eq n 0)
  where
    go : (t : Bool) → (T t → n ≡ 0)
        → Rounded (cond t (cond (eqb m 0) nan (inf false)) (round binary64 false (m * up e * down d) (n * up d * down e))) (m * up e * down d) (0 * down d) (n * up d * down e)
    go true h = absurd (lt_irrefl 0 (omega (arith, h tt, ltb→lt 0 n g)))
    go false h = plus (m * up e * down d) (omega arith) refl
div_rounds (fin true m e) (fin false n d) f g = go (eqb n 0) (eqb→eq n 0)
  where
    go : (t : Bool) → (T t → n ≡ 0)
        → Rounded (cond t (cond (eqb m 0) nan (inf true)) (round binary64 true (m * up e * down d) (n * up d * down e))) (0 * down d) (m * up e * down d) (n * up d * down e)
    go true h = absurd (lt_irrefl 0 (omega (arith, h tt, ltb→lt 0 n g)))
    go false h = minus (m * up e * down d) (omega arith) refl
