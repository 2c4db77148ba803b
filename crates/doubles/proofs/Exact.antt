-- Where an operation rounds nothing: a double is the rounding of its own value, adding or taking away a zero leaves it as it is,
-- so does 1 as a factor, and x / x is 1. Assumes nothing.
use Rattle.std.proofs.Common.{◌≡◌, ℕ, zero, suc, ◌+◌, ◌-◌, ◌*◌, ◌/◌, ◌%◌, ◌^◌, ◌<◌, ◌≤◌, Bool, true, false, cond, not, ◌&&◌, ◌||◌, T, eqb, ltb, leb, ℤ, pos, negsuc, sym, refl, ap, ◌∙◌, subst, zero-le, lt_of_lt_of_le, add-zero, lt_irrefl, mul_assoc, mul-lt-mul_of_pos_right, mul-pos, one-mul, zero-mul, mul-one, mul_right_comm, arith, lit<, eqb→eq, ltb→lt, leb→le, T_not, pow_pos, pow_mono, pow-add, shl_lt, le-ltb, lt-ltb}
use mathlib.Core.Bool.{beq}
use native.Mathlib.Nat.{sub-zero, eq_of_mul-eq-mul_right}
use native.Mathlib.Decide.{dec_le}
use lib.Pow.{pow-lt}
use lib.Ieee.{Float, nan, inf, fin, binary64, up, down, size, round, sum, add, sub, mul, div, neg, eq, fits, of_bits, to_bits}
use lib.Ieee.Bits.{of_bits-to_bits}
use lib.Ieee.Exact.{HasValue, round_exact}
use lib.Ieee.Fits.{up_pos, down_pos, round-fits, and_l, and_r}
use lib.Ieee.Nearest.{div_same}
use lib.Ieee.Scale.{finite, round_same}
use Rattle.doubles.specs.Arithmetic.{◌⊕◌, ◌⊖◌, ◌⊗◌, ◌⊘◌, whole}
use Rattle.doubles.specs.Order.{Finite, Fits, Zero, NonZero}
use Rattle.doubles.proofs.Order.{positive_part, negative_part}
use Rattle.doubles.proofs.Rounding.{Rounded, plus, minus, first_zero, product_comm}
use lib.Ieee.Positive.{den}

-- ---- a double of the format is the rounding of its own value

-- equal values have equal bits, and so are the same double
pub same_value_lem : (x y : Float) (s : Bool) (a c : ℕ) → 0 < c → T (fits binary64 x) → T (fits binary64 y) → HasValue x s a c → HasValue y s a c → x ≡ y
unfolding to_bits
same_value_lem nan y s a c C f g h k = absurd h
same_value_lem (inf t) y s a c C f g h k = absurd h
same_value_lem (fin t m e) nan s a c C f g h k = absurd k
same_value_lem (fin t m e) (inf u) s a c C f g h k = absurd k
same_value_lem (fin t m e) (fin u n d) s a c C f g h k = sym (of_bits-to_bits binary64 (fin t m e) f) ∙ ap (of_bits binary64) bits ∙ of_bits-to_bits binary64 (fin u n d) g
  where
    cross : m * up e * down d ≡ n * up d * down e
    cross = eq_of_mul-eq-mul_right c C (m * up e * down d) (n * up d * down e)
        (mul_right_comm (m * up e) (down d) c ∙ ap (λ (x : ℕ). x * down d) h.1 ∙ mul_right_comm a (down e) (down d) ∙ ap (λ (x : ℕ). x * down e) (sym k.1) ∙ mul_right_comm (n * up d) c (down e))

    scaled : m * up e * 2 ^ 1074 / down e ≡ n * up d * 2 ^ 1074 / down d
    scaled = div_same (m * up e * 2 ^ 1074) (down e) (n * up d * 2 ^ 1074) (down d) (down_pos e) (down_pos d)
        (mul_right_comm (m * up e) (2 ^ 1074) (down d) ∙ ap (λ (x : ℕ). x * 2 ^ 1074) cross ∙ mul_right_comm (n * up d) (down e) (2 ^ 1074))

    written : Bool → ℕ → ℕ
    written b v = let k = size v - 53 in cond b (2 ^ 63) 0 + k * 2 ^ 52 + v / 2 ^ k

    bits : to_bits binary64 (fin t m e) ≡ to_bits binary64 (fin u n d)
    bits = ap (λ (b : Bool). written b (m * up e * 2 ^ 1074 / down e)) (h.0 ∙ sym k.0) ∙ ap (written u) scaled

-- what `fits` says of a double that is not zero
pub record Digits (m : ℕ) (e : ℤ) : Type 0 where
  pub is_odd : m % 2 ≡ 1
  pub few : m < 2 ^ 53
  pub fine : down e ≤ 2 ^ 1074
  pub small : m * up e < 2 ^ 1024 * down e

pub digits : (s : Bool) (m : ℕ) (e : ℤ) → T (fits binary64 (fin s (suc m) e)) → Digits (suc m) e
unfolding fits
digits s m e f =
    let a = eqb (suc m % 2) 1 in
    let b = ltb (suc m) (2 ^ 53) in
    let c = leb (down e) (2 ^ 1074) in
    let d = ltb (suc m * up e) (2 ^ 1024 * down e) in
    record {
      is_odd = eqb→eq (suc m % 2) 1 (and_l a b (and_l (a && b) c (and_l (a && b && c) d f)));
      few = ltb→lt (suc m) (2 ^ 53) (and_r a b (and_l (a && b) c (and_l (a && b && c) d f)));
      fine = leb→le (down e) (2 ^ 1074) (and_r (a && b) c (and_l (a && b && c) d f));
      small = ltb→lt (suc m * up e) (2 ^ 1024 * down e) (and_r (a && b && c) d f);
    }

-- 2 ^ k at most 2 ^ n only where k is at most n
exponent_le : (k n : ℕ) → 2 ^ k ≤ 2 ^ n → k ≤ n
exponent_le k n h = elim (dec_le k n) [ yes l ↦ l | no l ↦ absurd (lt_irrefl (2 ^ n) (lt_of_lt_of_le (pow-lt {i = n} {j = k} (omega arith)) h)) ]

own_value : (s : Bool) (m : ℕ) (e : ℤ) → T (fits binary64 (fin s m e)) → HasValue (round binary64 s (m * up e) (down e)) s (m * up e) (down e)
own_value s zero e f = round_exact binary64 s (0 * up e) (down e) 0 0 (down_pos e) (lit< tt) (lit< tt) (rw (zero-mul (up e)) (zero-mul (2 ^ 1074) ∙ sym (zero-mul (down e))))
own_value s (suc m) (pos k) f =
    let d = digits s m (pos k) f in
    let n = suc m in
    round_exact binary64 s (n * 2 ^ k) 1 n (k + 1074) (lit< tt) d.few
    (subst (λ (x : ℕ). x < 2 ^ 2098) (mul_assoc n (2 ^ k) (2 ^ 1074) ∙ ap (λ (x : ℕ). n * x) (sym (pow-add 2 k 1074)))
    (subst (λ (x : ℕ). n * 2 ^ k * 2 ^ 1074 < x) (sym (pow-add 2 1024 1074)) (mul-lt-mul_of_pos_right d.small (pow_pos 1074))))
    (mul_assoc n (2 ^ k) (2 ^ 1074) ∙ ap (λ (x : ℕ). n * x) (sym (pow-add 2 k 1074)) ∙ sym (mul-one (n * 2 ^ (k + 1074))))
own_value s (suc m) (negsuc k) f =
    let d = digits s m (negsuc k) f in
    let n = suc m in
    let l : suc k ≤ 1074 = exponent_le (suc k) 1074 d.fine in
    let j = 1074 - suc k in
    let room : 53 + j ≤ 2098 = omega arith in
    let back : j + suc k ≡ 1074 = omega arith in
    round_exact binary64 s (n * 1) (2 ^ suc k) n j (pow_pos (suc k)) d.few (lt_of_lt_of_le (shl_lt 53 j d.few) (pow_mono room))
    (ap (λ (x : ℕ). x * 2 ^ 1074) (mul-one n) ∙ ap (λ (x : ℕ). n * 2 ^ x) (sym back) ∙ ap (λ (x : ℕ). n * x) (pow-add 2 j (suc k)) ∙ sym (mul_assoc n (2 ^ j) (2 ^ suc k)))

-- x rounds to itself
pub round_own : (s : Bool) (m : ℕ) (e : ℤ) → T (fits binary64 (fin s m e)) → round binary64 s (m * up e) (down e) ≡ fin s m e
round_own s m e f =
    same_value_lem (round binary64 s (m * up e) (down e)) (fin s m e) s (m * up e) (down e) (down_pos e) (round-fits binary64 s (m * up e) (down e)) f (own_value s m e f) (refl, refl)

pub own_rounded : (x : Float) → T (finite x) → T (fits binary64 x) → Rounded x (positive_part x) (negative_part x) (den x)
own_rounded nan g f = absurd g
own_rounded (inf s) g f = absurd g
own_rounded (fin false m e) g f = plus (m * up e) (omega arith) (sym (round_own false m e f))
own_rounded (fin true m e) g f = minus (m * up e) (omega arith) (sym (round_own true m e f))

-- ---- adding and taking away a zero

pub digits_zero : (s : Bool) (m : ℕ) (e : ℤ) → T (eq (fin s m e) (whole 0)) → m ≡ 0
unfolding eq whole
digits_zero s m e h =
    first_zero m (up e) (up_pos e)
    (omega (arith, eqb→eq (m * up e * 1) (0 * 1 * down e) (and_l (eqb (m * up e * 1) (0 * 1 * down e)) (beq s false || eqb (m * up e * 1) 0) h)))

pub zero_digits : (s : Bool) (e : ℤ) → T (eq (fin s 0 e) (whole 0))
unfolding eq whole
zero_digits true e = rw (zero-mul (up e), zero-mul (down e)) tt
zero_digits false e = rw (zero-mul (up e), zero-mul (down e)) tt

sum_zero : (s t : Bool) (a b c : ℕ) → b ≡ 0 → 0 < a → sum binary64 s a t b c ≡ round binary64 s a c
unfolding sum
sum_zero true true a b c B A = rw (B, add-zero a)
sum_zero false false a b c B A = rw (B, add-zero a)
sum_zero true false a b c B A = rw (B, le-ltb a 0 zero-le, lt-ltb 0 a A, sub-zero a)
sum_zero false true a b c B A = rw (B, le-ltb a 0 zero-le, sub-zero a)

pub digits_pos : (s : Bool) (m : ℕ) (e : ℤ) → T (not (eq (fin s m e) (whole 0))) → 0 < m
digits_pos s zero e h = absurd (T_not (eq (fin s 0 e) (whole 0)) h (zero_digits s e))
digits_pos s (suc m) e h = omega arith

add-zero_all : (x z : Float) → T (fits binary64 x) → T (not (eq x (whole 0))) → T (eq z (whole 0)) → x ⊕ z ≡ x
unfolding add eq whole
add-zero_all nan z f n h = refl
add-zero_all (inf s) nan f n h = absurd h
add-zero_all (inf s) (inf t) f n h = absurd h
add-zero_all (inf s) (fin t k d) f n h = refl
add-zero_all (fin s m e) nan f n h = absurd h
add-zero_all (fin s m e) (inf t) f n h = absurd h
add-zero_all (fin s m e) (fin t k d) f n h =
    let a = m * up e * down d in
    let c = down e * down d in
    sum_zero s t a (k * up d * down e) c (rw (digits_zero t k d h, zero-mul (up d), zero-mul (down e))) (mul-pos (mul-pos (digits_pos s m e n) (up_pos e)) (down_pos d))
    ∙ round_same binary64 s a c (m * up e) (down e) (mul-pos (down_pos e) (down_pos d)) (down_pos e) (scaled (m * up e) (down d) (down e))
    ∙ round_own s m e f
  where
    scaled : (a d e : ℕ) → a * d * e ≡ a * (e * d)
    scaled a d e = omega arith

neg-zero : (z : Float) → T (eq z (whole 0)) → T (eq (neg z) (whole 0))
unfolding neg
neg-zero nan h = absurd (unfold eq in h)
neg-zero (inf s) h = absurd (unfold eq whole in h)
neg-zero (fin s m e) h = rw (digits_zero s m e h) (zero_digits (not s) e)

-- taking away a zero leaves a double that is not zero as it is, bit for bit
pub sub-zero_same : {x z : Float} → Fits x → NonZero x → Zero z → x ⊖ z ≡ x
unfolding sub
sub-zero_same {x} {z} f n h = add-zero_all x (neg z) f.holds n.holds (neg-zero z h.holds)

-- ---- a product with 1

-- 1 times a double is that double, bit for bit
pub one_times : {x : Float} → Fits x → whole 1 ⊗ x ≡ x
unfolding mul whole
one_times {x} f = go x f.holds
  where
    go : (x : Float) → T (fits binary64 x) → whole 1 ⊗ x ≡ x
    go nan f = refl
    go (inf true) f = refl
    go (inf false) f = refl
    go (fin true m e) f = rw (one-mul (m * up e), one-mul (down e)) (round_own true m e f)
    go (fin false m e) f = rw (one-mul (m * up e), one-mul (down e)) (round_own false m e f)

-- and so is a double times 1
pub times_one : {x : Float} → Fits x → x ⊗ whole 1 ≡ x
times_one {x} f = product_comm x (whole 1) ∙ one_times f

-- ---- a quotient of equals

pub div_self : {x : Float} → Finite x → NonZero x → x ⊘ x ≡ whole 1
unfolding div whole
div_self {x} f n = go x f.holds n.holds
  where
    pick : (b : Bool) (m a : ℕ) → (T b → m ≡ 0) → 0 < m → 0 < a → cond b (cond (eqb m 0) nan (inf false)) (round binary64 false a a) ≡ whole 1
    pick true m a h M A = absurd (lt_irrefl 0 (omega (arith, h tt)))
    pick false m a h M A = round_same binary64 false a a 1 1 A (lit< tt) (omega arith)

    go : (x : Float) → T (finite x) → T (not (eq x (whole 0))) → x ⊘ x ≡ whole 1
    go nan f n = absurd f
    go (inf s) f n = absurd f
    go (fin true m e) f n =
        pick (eqb m 0) m (m * up e * down e) (eqb→eq m 0) (digits_pos true m e n) (mul-pos (mul-pos (digits_pos true m e n) (up_pos e)) (down_pos e))
    go (fin false m e) f n =
        pick (eqb m 0) m (m * up e * down e) (eqb→eq m 0) (digits_pos false m e n) (mul-pos (mul-pos (digits_pos false m e n) (up_pos e)) (down_pos e))
