-- What `floor` uses: a fitting double with a fraction is below 2 ^ 52 in size and its digits m are odd, so m / 2 ^ suc k is never
-- whole; and a double without a fraction is the double of its whole value. Assumes nothing.
use Rattle.std.proofs.Common.{◌≡◌, ℕ, zero, suc, ◌+◌, ◌-◌, ◌*◌, ◌/◌, ◌%◌, ◌^◌, ◌<◌, ◌≤◌, Bool, true, false, ◌&&◌, T, eqb, ltb, leb, ℤ, pos, negsuc, sym, refl, ap, ◌∙◌, subst, true≢false, mod-lt, div-lt_iff_lt-mul, mul-le-mul_left, pow-suc, div-add-mod', mul-one, arith, le→leb, eqb→eq, lt→ltb, pow_pos, pow_mono}
use native.Mathlib.Nat.{div-one, mod-one, min-eq_left, eq_of_mul-eq-mul_right}
use lib.Arith.{digits_div}
use lib.Ieee.{Float, nan, inf, fin, binary64, up, down, neg, lt, eq, le, fits, is_nan, of_int, to_unsigned, in_unsigned}
use lib.Ieee as Ieee
use lib.Ieee.Back.{Float-back_unsigned, round_whole}
use lib.Ieee.Exact.{HasValue}
use lib.Ieee.Fits.{and_i, and_l, and_r, eq→eqb, down_pos, neg-fits}
use Rattle.std.specs.Float.{floor, round_with}
use Rattle.doubles.specs.Arithmetic.{whole}
use Rattle.doubles.specs.Functions.{floor_of}
use Rattle.doubles.proofs.Order.{lt→cross, cross→lt, eq→cross, le_lt_trans, lt-le_trans, equals_itself}
use Rattle.doubles.proofs.Exact.{Digits, digits, round_own}
use Rattle.doubles.proofs.Rounding.{round-neg}

-- 2 ^ 52
abbrev limit : Float
limit = fin false 1 (pos 52)

-- ---- a double with a fraction

-- a zero is written with no fraction
no_zero : (s : Bool) (k : ℕ) → T (fits binary64 (fin s 0 (negsuc k))) → ⊥
unfolding fits
no_zero s k f = omega (arith, eqb→eq (1 * 2 ^ suc k) 1 f, two_pow k)
  where
    two_pow : (k : ℕ) → 2 ≤ 2 ^ suc k
    two_pow k = pow_mono {i = 1} {j = suc k} (omega arith)

fraction : (m k : ℕ) → m % 2 ≡ 1 → m % 2 ^ suc k ≡ 0 → ⊥
fraction m k o z =
    let whole : m / 2 ^ suc k * 2 ^ suc k + m % 2 ^ suc k ≡ m = div-add-mod' m (2 ^ suc k) in
    let even : m / 2 ^ suc k * 2 ^ suc k ≡ 2 * (m / 2 ^ suc k * 2 ^ k) = ap (λ (p : ℕ). m / 2 ^ suc k * p) (pow-suc 2 k) ∙ halves (m / 2 ^ suc k) (2 ^ k) in
    parity m (m / 2 ^ suc k * 2 ^ suc k) (m % 2 ^ suc k) (m / 2 ^ suc k * 2 ^ k) o z whole even
  where
    halves : (q p : ℕ) → q * (p * 2) ≡ 2 * (q * p)
    halves q p = omega arith

    parity : (m a r b : ℕ) → m % 2 ≡ 1 → r ≡ 0 → a + r ≡ m → a ≡ 2 * b → ⊥
    parity m a r b o z w e = omega arith

ceiling : (m d : ℕ) → 0 < d → (m % d ≡ 0 → ⊥) → (m + (d - 1)) / d ≡ m / d + 1
ceiling m d D h = ap (λ (x : ℕ). x / d) split ∙ digits_div (m / d + 1) (short (m % d) d (mod-lt m D))
  where
    short : (r d : ℕ) → r < d → r - 1 < d
    short r d l = omega arith

    some_rest : 0 < m % d
    some_rest = omega arith

    carry : (m q r d : ℕ) → q * d + r ≡ m → 0 < r → 0 < d → m + (d - 1) ≡ (q + 1) * d + (r - 1)
    carry m q r d e R D = omega arith

    split : m + (d - 1) ≡ (m / d + 1) * d + (m % d - 1)
    split = carry m (m / d) (m % d) d (div-add-mod' m d) some_rest D

-- its size, m / 2 ^ suc k, is above 0 and below 2 ^ 52
within : (m k : ℕ) → Digits m (negsuc k) → (0 < m) × (m < 2 ^ 52 * 2 ^ suc k)
within m k d =
    let two : 2 ≤ 2 ^ suc k = pow_mono {i = 1} {j = suc k} (omega arith) in
    let wide : 2 ^ 52 * 2 ≤ 2 ^ 52 * 2 ^ suc k = mul-le-mul_left (2 ^ 52) two in
    (omega (arith, d.is_odd), omega (arith, d.few))

-- y is above 0 and below 2 ^ 52, as `floor` tests it
abbrev Small : Float → Bool
Small y = lt (fin false 0 (pos 0)) y && lt y limit

small : (m k : ℕ) → Digits m (negsuc k) → T (Small (fin false m (negsuc k)))
small m k d =
    let w = within m k d in
    and_i (lt (fin false 0 (pos 0)) (fin false m (negsuc k))) (lt (fin false m (negsuc k)) limit)
    (cross→lt (fin false 0 (pos 0)) (fin false m (negsuc k)) tt tt (omega (arith, w.0)))
    (cross→lt (fin false m (negsuc k)) limit tt tt (omega (arith, w.1)))

-- ---- the whole part of a double below 2 ^ 52

module _ (m : ℕ) (e : ℤ) (h : T (lt (fin false m e) limit)) where
  quotient_lt : m * up e / down e < 2 ^ 52
  quotient_lt = (div-lt_iff_lt-mul (down_pos e)).1 (omega (arith, lt→cross (fin false m e) limit tt tt h))

  whole_part : to_unsigned 64 (fin false m e) ≡ m * up e / down e
  unfolding to_unsigned
  whole_part = min-eq_left (omega (arith, quotient_lt))

-- of one with no fraction it is the double itself
restored : (m k : ℕ) → T (fits binary64 (fin false m (pos k))) → T (lt (fin false m (pos k)) limit) → whole (to_unsigned 64 (fin false m (pos k))) ≡ fin false m (pos k)
unfolding whole in_unsigned Ieee.whole
restored m k f h =
    let n = m * 2 ^ k / 1 in
    let l : n < 2 ^ 52 = quotient_lt m (pos k) h in
    (Float-back_unsigned binary64 64 (fin false m (pos k)) f
    (and_i (eqb (m * 2 ^ k % 1) 0 && leb n (2 ^ 53) && true) (ltb n (2 ^ 64))
    (and_i (eqb (m * 2 ^ k % 1) 0 && leb n (2 ^ 53)) true (and_i (eqb (m * 2 ^ k % 1) 0) (leb n (2 ^ 53)) (eq→eqb (mod-one (m * 2 ^ k))) (le→leb n (2 ^ 53) (omega arith))) tt)
    (lt→ltb n (2 ^ 64) (omega arith)))
    ).1

-- ---- what each way through `floor` needs

module _ (x : Float) (h : Small x ≡ true) where
  above : T (lt (fin false 0 (pos 0)) x)
  above = and_l (lt (fin false 0 (pos 0)) x) (lt x limit) (subst T (sym h) tt)

  below : T (lt x limit)
  below = and_r (lt (fin false 0 (pos 0)) x) (lt x limit) (subst T (sym h) tt)

  -- what the cast to a whole number asks
  pub castable : T (lt (fin true 1 (pos 0)) x) × T (lt x (fin false 1 (pos 64)))
  castable = (
    (le_lt_trans {x = fin true 1 (pos 0)} {y = fin false 0 (pos 0)} {z = x} (record { holds = unfold le in tt }) (record { holds = above })).holds,
    (lt-le_trans {x = x} {y = limit} {z = fin false 1 (pos 64)} (record { holds = below }) (record { holds = unfold le in tt })).holds,
  )

pub floor_positive : (x : Float) → T (fits binary64 x) → Small x ≡ true → whole (to_unsigned 64 x) ≡ floor_of x
unfolding floor_of
floor_positive nan f h = absurd (unfold lt in above nan h)
floor_positive (inf true) f h = absurd (unfold lt in above (inf true) h)
floor_positive (inf false) f h = absurd (unfold lt in below (inf false) h)
floor_positive (fin true m e) f h = absurd (unfold lt in above (fin true m e) h)
floor_positive (fin false m (pos k)) f h = restored m k f (below (fin false m (pos k)) h)
floor_positive (fin false m (negsuc k)) f h = rw (whole_part m (negsuc k) (below (fin false m (negsuc k)) h), mul-one m)

-- a double of value n that equals m / 2 ^ suc k
equal_values : (z : Float) (n m k : ℕ) → HasValue z false n 1 → T (eq z (fin false m (negsuc k))) → n * 2 ^ suc k ≡ m
equal_values nan n m k v h = absurd v
equal_values (inf s) n m k v h = absurd v
equal_values (fin true a b) n m k v h = absurd (true≢false v.0)
equal_values (fin false a b) n m k v h =
    cancel (a * up b) (down b) (2 ^ suc k) n m (down_pos b) v.1 (eq→cross (fin false a b) (fin false m (negsuc k)) tt tt h)
  where
    cancel : (a b p n m : ℕ) → 0 < b → a * 1 ≡ n * b → a * p + 0 * b ≡ m * 1 * b + 0 * p → n * p ≡ m
    cancel a b p n m B v h = eq_of_mul-eq-mul_right b B (n * p) m (omega (arith, ap (λ (x : ℕ). x * p) v))

-- with a fraction the whole part differs
not_whole : (m k : ℕ) → Digits m (negsuc k) → T (lt (fin false m (negsuc k)) limit) → T (eq (whole (to_unsigned 64 (fin false m (negsuc k)))) (fin false m (negsuc k))) → ⊥
unfolding whole of_int
not_whole m k d l h =
    let n = to_unsigned 64 (fin false m (negsuc k)) in
    let p : n ≡ m / 2 ^ suc k = whole_part m (negsuc k) l ∙ ap (λ (x : ℕ). x / 2 ^ suc k) (mul-one m) in
    let q : n < 2 ^ 52 = rw (whole_part m (negsuc k) l) (quotient_lt m (negsuc k) l) in
    let v : n * 2 ^ suc k ≡ m = equal_values (whole n) n m k (round_whole binary64 false n (omega arith)) h in
    let w : m / 2 ^ suc k * 2 ^ suc k ≡ m = rw p at v in
    fraction m k d.is_odd (rest (m / 2 ^ suc k * 2 ^ suc k) (m % 2 ^ suc k) m w (div-add-mod' m (2 ^ suc k)))
  where
    rest : (a r m : ℕ) → a ≡ m → a + r ≡ m → r ≡ 0
    rest a r m e f = omega arith

-- −x is in the range: its whole part n is −x, or is below it
pub floor_even : (x : Float) → T (fits binary64 x) → Small (neg x) ≡ true → eq (whole (to_unsigned 64 (neg x))) (neg x) ≡ true → floor_of x ≡ x
unfolding floor_of neg
floor_even nan f h e = refl
floor_even (inf s) f h e = refl
floor_even (fin s m (pos k)) f h e = refl
floor_even (fin s zero (negsuc k)) f h e = absurd (no_zero s k f)
floor_even (fin false (suc m) (negsuc k)) f h e = absurd (unfold lt in above (fin true (suc m) (negsuc k)) h)
floor_even (fin true (suc m) (negsuc k)) f h e =
    absurd (not_whole (suc m) k (digits true m (negsuc k) f) (below (fin false (suc m) (negsuc k)) h) (subst T (sym e) tt))

pub floor_negative : (x : Float) → T (fits binary64 x) → Small (neg x) ≡ true → eq (whole (to_unsigned 64 (neg x))) (neg x) ≡ false
    → floor_of x ≡ neg (whole (to_unsigned 64 (neg x) + 1))
unfolding floor_of neg is_nan
floor_negative nan f h e = absurd (unfold lt in above nan h)
floor_negative (inf true) f h e = absurd (unfold lt in below (inf false) h)
floor_negative (inf false) f h e = absurd (unfold lt in above (inf true) h)
floor_negative (fin false m d) f h e = absurd (unfold lt in above (fin true m d) h)
floor_negative (fin true m (pos k)) f h e =
    let y = fin false m (pos k) in
    absurd (true≢false (sym (ap (λ (z : Float). eq z y) (restored m k (neg-fits binary64 (fin true m (pos k)) f) (below y h)) ∙ equals_itself y) ∙ e))
floor_negative (fin true zero (negsuc k)) f h e = absurd (no_zero true k f)
floor_negative (fin true (suc m) (negsuc k)) f h e =
    let d = digits true m (negsuc k) f in
    rw (whole_part (suc m) (negsuc k) (below (fin false (suc m) (negsuc k)) h), mul-one (suc m), ceiling (suc m) (2 ^ suc k) (pow_pos (suc k)) (fraction (suc m) k d.is_odd))

-- the library's floor is ours
pub floor_is : (x : Float) → T (fits binary64 x) → floor binary64 x ≡ floor_of x
unfolding floor_of round_with whole of_int
floor_is nan f = refl
floor_is (inf s) f = refl
floor_is (fin false m (pos k)) f = rw (div-one (m * 2 ^ k)) (round_own false m (pos k) f)
floor_is (fin true m (pos k)) f = ap (λ (n : ℕ). Ieee.round binary64 true n 1) (level (m * 2 ^ k)) ∙ round_own true m (pos k) f
  where
    level : (n : ℕ) → (n + 1 - 1) / 1 ≡ n
    level n = omega arith
floor_is (fin false m (negsuc k)) f = rw (mul-one m) refl
floor_is (fin true m (negsuc k)) f =
    rw (mul-one m) (round-neg ((m + 2 ^ suc k - 1) / 2 ^ suc k) 1 ∙ ap (λ (n : ℕ). neg (Ieee.round binary64 false (n / 2 ^ suc k) 1)) (taken m (2 ^ suc k) (pow_pos (suc k))))
  where
    taken : (m d : ℕ) → 0 < d → m + d - 1 ≡ m + (d - 1)
    taken m d h = omega arith
