-- What has no minus sign. Level doubles without it are the same double, bit for bit, since only the two zeros are level and differ.
-- A difference that is cut off at 0 never has it: a difference of two doubles is a zero only where they are equal, and then it is +0.
-- Assumes nothing.
use Rattle.std.proofs.Common.{◌≡◌, ℕ, zero, suc, ◌+◌, ◌-◌, ◌*◌, ◌/◌, ◌%◌, ◌^◌, ◌<◌, ◌≤◌, Bool, true, false, cond, not, T, eqb, ltb, ◌⊎◌, ℤ, pos, negsuc, sym, refl, ap, ◌∙◌, subst, inl, inr, lt_irrefl, mul-le-mul_right, lt_of_mul-lt-mul_right, mul-le-mul_left, mul-pos, arith, eqb→eq, ltb→lt, pow_pos, pow-add}
use Prim.Native.Nat.{compare}
use native.Mathlib.Decide.{dec_le}
use lib.Ieee.{Float, nan, inf, fin, binary64, up, down, size, nearest, odd, units, round, sum, add, sub, mul, div, neg, lt, le, fits}
use lib.Ieee.Fits.{round_is, down_pos}
use lib.Ieee.Scale.{finite}
use Rattle.doubles.specs.Arithmetic.{◌⊕◌, ◌⊖◌, ◌⊗◌, ◌⊘◌, whole}
use Rattle.doubles.specs.Functions.{max_of2}
use Rattle.doubles.specs.Order.{◌≼◌, ◌≺◌, ◌≈◌, Finite, Fits}
use Rattle.doubles.proofs.Order.{le→cross, le_lt_trans}
use Rattle.doubles.proofs.Rounding.{rounded_mono, add_rounds}
use Rattle.doubles.proofs.Exact.{same_value_lem, own_rounded, digits}

unfoldable pub unsigned : Float → Bool
unsigned nan = true
unsigned (inf s) = not s
unsigned (fin s m e) = not s

-- no minus sign
pub record Unsigned (x : Float) : Type 0 where
  pub holds : T (unsigned x)

-- ---- the operations

odd_unsigned : (d q k l : ℕ) → T (unsigned (odd d false q k l))
unfolding odd unsigned
odd_unsigned d zero k l = tt
odd_unsigned d (suc q) k l = tt

round_unsigned : (a c : ℕ) → T (unsigned (round binary64 false a c))
round_unsigned a c =
    let n = a * 2 ^ 1074 in
    let k = size (n / c) - 53 in
    let u = c * 2 ^ k in
    subst (λ (x : Float). T (unsigned x)) (sym (round_is binary64 false a c)) (of_units (nearest (n / u) (compare (n % u * 2) u)) k)
  where
    of_units : (q k : ℕ) → T (unsigned (units binary64 false q k))
    of_units q k = unfold units unsigned in go (ltb (q * 2 ^ k) (2 ^ 2098))
      where
        go : (b : Bool) → T (unsigned (cond b (odd 54 false q k 1074) (inf false)))
        go true = odd_unsigned 54 q k 1074
        go false = unfold unsigned in tt

inf_or_nan : (b : Bool) → T (unsigned (cond b nan (inf false)))
unfolding unsigned
inf_or_nan true = tt
inf_or_nan false = tt

pub mul_unsigned : {x y : Float} → Unsigned x → Unsigned y → Unsigned (x ⊗ y)
unfolding mul unsigned
mul_unsigned {x} {y} h k = record { holds = go x y h.holds k.holds }
  where
    go : (x y : Float) → T (unsigned x) → T (unsigned y) → T (unsigned (x ⊗ y))
    go nan y h k = tt
    go (inf true) y h k = absurd h
    go (fin true m e) y h k = absurd h
    go (inf false) nan h k = tt
    go (inf false) (inf true) h k = absurd k
    go (inf false) (fin true n d) h k = absurd k
    go (inf false) (inf false) h k = tt
    go (inf false) (fin false n d) h k = inf_or_nan (eqb n 0)
    go (fin false m e) nan h k = tt
    go (fin false m e) (inf true) h k = absurd k
    go (fin false m e) (fin true n d) h k = absurd k
    go (fin false m e) (inf false) h k = inf_or_nan (eqb m 0)
    go (fin false m e) (fin false n d) h k = round_unsigned (m * up e * (n * up d)) (down e * down d)

pub div_unsigned : {x y : Float} → Unsigned x → Unsigned y → Unsigned (x ⊘ y)
unfolding div unsigned
div_unsigned {x} {y} h k = record { holds = go x y h.holds k.holds }
  where
    pick : (b c : Bool) (z : Float) → T (unsigned z) → T (unsigned (cond b (cond c nan (inf false)) z))
    pick true c z h = inf_or_nan c
    pick false c z h = h

    go : (x y : Float) → T (unsigned x) → T (unsigned y) → T (unsigned (x ⊘ y))
    go nan y h k = tt
    go (inf true) y h k = absurd h
    go (fin true m e) y h k = absurd h
    go (inf false) nan h k = tt
    go (inf false) (inf true) h k = absurd k
    go (inf false) (fin true n d) h k = absurd k
    go (inf false) (inf false) h k = tt
    go (inf false) (fin false n d) h k = tt
    go (fin false m e) nan h k = tt
    go (fin false m e) (inf true) h k = absurd k
    go (fin false m e) (fin true n d) h k = absurd k
    go (fin false m e) (inf false) h k = tt
    go (fin false m e) (fin false n d) h k =
        pick (eqb n 0) (eqb m 0) (round binary64 false (m * up e * down d) (n * up d * down e)) (round_unsigned (m * up e * down d) (n * up d * down e))

-- a summand of −0.0 changes nothing
pub add_unsigned : {x y : Float} → Unsigned x → whole 0 ≼ y → Unsigned (x ⊕ y)
unfolding add sum unsigned whole le
add_unsigned {x} {y} h k = record { holds = go x y h.holds k }
  where
    pick : (b : Bool) (z w : Float) → (T b → ⊥) → T (unsigned w) → T (unsigned (cond b z w))
    pick true z w n h = absurd (n tt)
    pick false z w n h = h

    nothing : (a n u e : ℕ) → n * u ≡ 0 → T (ltb a (n * u * e)) → ⊥
    nothing a n u e z t = lt_irrefl 0 (omega (arith, ltb→lt a (n * u * e) t, ap (λ (x : ℕ). x * e) z))

    go : (x y : Float) → T (unsigned x) → whole 0 ≼ y → T (unsigned (x ⊕ y))
    go nan y h k = tt
    go (inf true) y h k = absurd h
    go (fin true m e) y h k = absurd h
    go (inf false) nan h k = tt
    go (inf false) (inf true) h k = tt
    go (inf false) (inf false) h k = tt
    go (inf false) (fin t n d) h k = tt
    go (fin false m e) nan h k = tt
    go (fin false m e) (inf true) h k = absurd k.holds
    go (fin false m e) (inf false) h k = tt
    go (fin false m e) (fin false n d) h k = round_unsigned (m * up e * down d + n * up d * down e) (down e * down d)
    go (fin false m e) (fin true n d) h k =
        let z : n * up d ≡ 0 = omega (arith, le→cross {x = whole 0} {y = fin true n d} (record { holds = tt }) (record { holds = tt }) k) in
        let a = m * up e * down d in
        let b = n * up d * down e in
        pick (ltb a b) (round binary64 true (b - a) (down e * down d)) (round binary64 false (a - b) (down e * down d)) (nothing a n (up d) (down e) z)
        (round_unsigned (a - b) (down e * down d))

-- ---- a difference of two doubles that is not zero is no smaller than the smallest double

exponent : ℤ → ℕ
exponent (pos k) = 0
exponent (negsuc k) = suc k

down_power : (e : ℤ) → down e ≡ 2 ^ exponent e
unfolding exponent
down_power (pos k) = refl
down_power (negsuc k) = refl

one_le : (a b : ℕ) → 1 * a ≡ 1 → 0 < b → a ≤ b
one_le a b e p = omega arith

-- the places of a double's fraction are at most 1074
places : (s : Bool) (m : ℕ) (e : ℤ) → T (fits binary64 (fin s m e)) → down e ≤ 2 ^ 1074
unfolding fits
places s (suc m) e f = (digits s m e f).fine
places s zero (pos k) f = one_le 1 (2 ^ 1074) refl (pow_pos 1074)
places s zero (negsuc k) f = one_le (2 ^ suc k) (2 ^ 1074) (eqb→eq (1 * 2 ^ suc k) 1 f) (pow_pos 1074)

power_part : (i j : ℕ) → i ≤ j → 2 ^ j ≡ 2 ^ i * 2 ^ (j - i)
power_part i j h = let back : j ≡ i + (j - i) = omega arith in ap (λ (x : ℕ). 2 ^ x) back ∙ pow-add 2 i (j - i)

finer_right : (a b u g k : ℕ) → a * (u * g) < b * u → u * g ≤ k → a * (u * g) * k + u * (u * g) ≤ b * u * k
finer_right a b u g k h l =
    let less : a * g < b = lt_of_mul-lt-mul_right u (omega arith) in
    let step : (a * g + 1) * u ≤ b * u = mul-le-mul_right u (omega arith) in
    omega (arith, mul-le-mul_right k step, mul-le-mul_left u l)

finer_left : (a b u g k : ℕ) → a * u < b * (u * g) → u * g ≤ k → a * u * k + u * g * u ≤ b * (u * g) * k
finer_left a b u g k h l =
    let less : a < b * g = lt_of_mul-lt-mul_right u (omega arith) in
    let step : (a + 1) * u ≤ b * g * u = mul-le-mul_right u (omega arith) in
    omega (arith, mul-le-mul_right k step, mul-le-mul_left u l)

-- a / 2 ^ i < b / 2 ^ j are apart by at least 1 / k
apart : (a b i j k : ℕ) → 2 ^ i ≤ k → 2 ^ j ≤ k → a * 2 ^ j < b * 2 ^ i → a * 2 ^ j * k + 2 ^ i * 2 ^ j ≤ b * 2 ^ i * k
apart a b i j k p q h = go (dec_le i j)
  where
    go : Dec (i ≤ j) → a * 2 ^ j * k + 2 ^ i * 2 ^ j ≤ b * 2 ^ i * k
    go (yes l) =
        let e = power_part i j l in
        subst (λ (x : ℕ). a * x * k + 2 ^ i * x ≤ b * 2 ^ i * k) (sym e)
        (finer_right a b (2 ^ i) (2 ^ (j - i)) k (subst (λ (x : ℕ). a * x < b * 2 ^ i) e h) (subst (λ (x : ℕ). x ≤ k) e q))
    go (no l) =
        let e = power_part j i (omega arith) in
        subst (λ (x : ℕ). a * 2 ^ j * k + x * 2 ^ j ≤ b * x * k) (sym e)
        (finer_left a b (2 ^ j) (2 ^ (i - j)) k (subst (λ (x : ℕ). a * 2 ^ j < b * x) e h) (subst (λ (x : ℕ). x ≤ k) e p))

apart_doubles : (m n : ℕ) (e d : ℤ) → T (fits binary64 (fin false m e)) → T (fits binary64 (fin false n d)) → m * up e * down d < n * up d * down e
    → m * up e * down d * 2 ^ 1074 + down e * down d ≤ n * up d * down e * 2 ^ 1074
apart_doubles m n e d f g h =
    let p = down_power e in
    let q = down_power d in
    rw (p, q)
    (apart (m * up e) (n * up d) (exponent e) (exponent d) (2 ^ 1074) (subst (λ (x : ℕ). x ≤ 2 ^ 1074) p (places false m e f))
    (subst (λ (x : ℕ). x ≤ 2 ^ 1074) q (places false n d g))
    (subst (λ (x : ℕ). m * up e * 2 ^ exponent d < n * up d * x) p (subst (λ (x : ℕ). m * up e * x < n * up d * down e) q h)))

-- the double next below 0
next_below : Float
next_below = fin true 1 (negsuc 1073)

next_below_fits : T (fits binary64 next_below)
unfolding fits next_below
next_below_fits = tt

next_below_zero : next_below ≺ whole 0
unfolding next_below lt whole
next_below_zero = record { holds = tt }

sides_of : (a b c k x y : ℕ) → a * k + c ≤ b * k → (a + 0 * x) * k + 1 * c ≤ 0 * c + (0 * y + b) * k
sides_of a b c k x y h = omega arith

difference_below : (m n : ℕ) (e d : ℤ) → T (fits binary64 (fin false m e)) → T (fits binary64 (fin false n d)) → m * up e * down d < n * up d * down e
    → fin false m e ⊖ fin false n d ≺ whole 0
unfolding sub neg next_below
difference_below m n e d f g h =
    le_lt_trans
    (rounded_mono (fin false m e ⊖ fin false n d) next_below (m * up e * down d + 0 * down e) (0 * down d + n * up d * down e) (down e * down d) 0 1 (2 ^ 1074)
    (mul-pos (down_pos e) (down_pos d)) (pow_pos 1074) (add_rounds (fin false m e) (fin true n d) tt tt) (own_rounded next_below tt next_below_fits)
    (sides_of (m * up e * down d) (n * up d * down e) (down e * down d) (2 ^ 1074) (down e) (down d) (apart_doubles m n e d f g h)))
    next_below_zero

cut_unsigned_by : (z : Float) → T (lt z (whole 0)) ⊎ T (unsigned z) → T (unsigned (max_of2 (whole 0) z))
unfolding max_of2 unsigned whole
cut_unsigned_by z h = go (lt z (whole 0)) h
  where
    go : (b : Bool) → T b ⊎ T (unsigned z) → T (unsigned (cond b (whole 0) z))
    go true h = tt
    go false (inl l) = absurd l
    go false (inr u) = u

below_or_unsigned : (x y : Float) → T (fits binary64 x) → T (fits binary64 y) → T (finite x) → T (unsigned x) → T (lt (x ⊖ y) (whole 0)) ⊎ T (unsigned (x ⊖ y))
unfolding sub add neg sum unsigned lt whole
below_or_unsigned nan y f g h u = absurd h
below_or_unsigned (inf s) y f g h u = absurd h
below_or_unsigned (fin true m e) y f g h u = absurd u
below_or_unsigned (fin false m e) nan f g h u = inr tt
below_or_unsigned (fin false m e) (inf true) f g h u = inr tt
below_or_unsigned (fin false m e) (inf false) f g h u = inl tt
below_or_unsigned (fin false m e) (fin true n d) f g h u = inr (round_unsigned (m * up e * down d + n * up d * down e) (down e * down d))
below_or_unsigned (fin false m e) (fin false n d) f g h u = go (ltb a b) (λ t. (difference_below m n e d f g (ltb→lt a b t)).holds)
  where
    a : ℕ
    a = m * up e * down d

    b : ℕ
    b = n * up d * down e

    go : (t : Bool) → (T t → T (lt (fin false m e ⊖ fin false n d) (whole 0)))
        → T (lt (fin false m e ⊖ fin false n d) (whole 0)) ⊎ T (unsigned (cond t (round binary64 true (b - a) (down e * down d)) (round binary64 false (a - b) (down e * down d))))
    go true k = inl (k tt)
    go false k = inr (round_unsigned (a - b) (down e * down d))

-- a difference that is cut off at 0
pub cut_unsigned : {x y : Float} → Fits x → Fits y → Finite x → Unsigned x → Unsigned (max_of2 (whole 0) (x ⊖ y))
cut_unsigned {x} {y} f g h u = record { holds = cut_unsigned_by (x ⊖ y) (below_or_unsigned x y f.holds g.holds h.holds u.holds) }

-- what is above 0
pub positive_unsigned : {x : Float} → whole 0 ≺ x → Unsigned x
unfolding unsigned lt whole
positive_unsigned {x} h = record { holds = go x h.holds }
  where
    go : (x : Float) → T (lt (whole 0) x) → T (unsigned x)
    go nan h = tt
    go (inf true) h = absurd h
    go (inf false) h = tt
    go (fin true m e) h = absurd h
    go (fin false m e) h = tt

-- ---- level and without a sign: the same double

level_test : (x y : Float) → T (fits binary64 x) → T (fits binary64 y) → T (unsigned x) → T (unsigned y) → x ≼ y → y ≼ x → x ≡ y
unfolding unsigned le
level_test nan y f g u v h k = absurd h.holds
level_test (inf true) y f g u v h k = absurd u
level_test (fin true m e) y f g u v h k = absurd u
level_test (inf false) nan f g u v h k = absurd h.holds
level_test (inf false) (inf true) f g u v h k = absurd v
level_test (inf false) (inf false) f g u v h k = refl
level_test (inf false) (fin t n d) f g u v h k = absurd h.holds
level_test (fin false m e) nan f g u v h k = absurd h.holds
level_test (fin false m e) (inf true) f g u v h k = absurd v
level_test (fin false m e) (inf false) f g u v h k = absurd k.holds
level_test (fin false m e) (fin true n d) f g u v h k = absurd v
level_test (fin false m e) (fin false n d) f g u v h k =
    let p = le→cross {x = fin false m e} {y = fin false n d} (record { holds = tt }) (record { holds = tt }) h in
    let q = le→cross {x = fin false n d} {y = fin false m e} (record { holds = tt }) (record { holds = tt }) k in
    let e' : n * up d * down e ≡ m * up e * down d = omega (arith, p, q) in
    same_value_lem (fin false m e) (fin false n d) false (m * up e) (down e) (down_pos e) f g (refl, refl) (refl, e')

pub level_same : {x y : Float} → Fits x → Fits y → Unsigned x → Unsigned y → x ≈ y → x ≡ y
level_same {x} {y} f g u v h = level_test x y f.holds g.holds u.holds v.holds h.below h.above
