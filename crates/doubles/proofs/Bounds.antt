-- What results are no NaN and not negative, and where they lie: x − y ≤ x ≤ x + y for y ≥ 0, and x / z ≤ 1 for x ≤ z, z above 0.
-- Assumes nothing.
use Rattle.std.proofs.Common.{◌≡◌, ℕ, zero, suc, ◌+◌, ◌-◌, ◌*◌, ◌/◌, ◌%◌, ◌^◌, ◌<◌, Bool, true, false, cond, not, ◌&&◌, T, eqb, ltb, sym, refl, subst, lt_irrefl, mul-pos, arith, lit<, eqb→eq, ltb→lt}
use Prim.Native.Nat.{compare}
use lib.Dec.{not_T}
use lib.Ieee.{Float, nan, inf, fin, binary64, up, down, unlike, size, nearest, odd, units, round, sum, add, sub, mul, div, neg, lt, eq, le, fits, is_nan}
use lib.Ieee.Fits.{up_pos, down_pos, round_is}
use lib.Ieee.Positive.{den, den_pos}
use lib.Ieee.Scale.{finite}
use Rattle.doubles.specs.Arithmetic.{◌⊕◌, ◌⊖◌, ◌⊗◌, ◌⊘◌, whole}
use Rattle.doubles.specs.Order.{◌≼◌, ◌≺◌, Number, Finite, Fits, NonZero}
use Rattle.doubles.proofs.Order.{or_right, positive_part, negative_part, le_refl, le_trans, top, bottom, lt→le, neg_finite, neg-neg, neg-number, left_number, lt_excludes, le_of_not_lt}
use Rattle.doubles.proofs.Rounding.{Rounded, plus, minus, zero-round, rounded_mono, add_rounds, mul_rounds}
use Rattle.doubles.proofs.Monotone.{positive_of, add_mono, sub_mono, mul_mono, div_mono}
use Rattle.doubles.proofs.Exact.{own_rounded, div_self, digits_pos}

-- ---- no NaN

odd_number : (d : ℕ) (s : Bool) (q k l : ℕ) → T (not (is_nan (odd d s q k l)))
unfolding odd is_nan
odd_number d s zero k l = tt
odd_number d s (suc q) k l = tt

units_number : (s : Bool) (q k : ℕ) → T (not (is_nan (units binary64 s q k)))
unfolding units is_nan
units_number s q k = go (ltb (q * 2 ^ k) (2 ^ 2098))
  where
    go : (b : Bool) → T (not (is_nan (cond b (odd 54 s q k 1074) (inf s))))
    go true = odd_number 54 s q k 1074
    go false = tt

pub round_number : (s : Bool) (a c : ℕ) → T (not (is_nan (round binary64 s a c)))
round_number s a c =
    let n = a * 2 ^ 1074 in
    let k = size (n / c) - 53 in
    let u = c * 2 ^ k in
    subst (λ (x : Float). T (not (is_nan x))) (sym (round_is binary64 s a c)) (units_number s (nearest (n / u) (compare (n % u * 2) u)) k)

rounded_number : {z : Float} {p n c : ℕ} → Rounded z p n c → Number z
rounded_number {c} (plus k e f) = record { holds = subst (λ (x : Float). T (not (is_nan x))) (sym f) (round_number false k c) }
rounded_number {c} (minus k e f) = record { holds = subst (λ (x : Float). T (not (is_nan x))) (sym f) (round_number true k c) }

-- finite operands give no NaN, but for a divisor of zero
pub add-number : {x y : Float} → Finite x → Finite y → Number (x ⊕ y)
add-number {x} {y} f g = rounded_number (add_rounds x y f.holds g.holds)

pub sub_number : {x y : Float} → Finite x → Finite y → Number (x ⊖ y)
unfolding sub
sub_number {x} {y} f g = add-number {x = x} {y = neg y} f (neg_finite g)

pub mul-number : {x y : Float} → Finite x → Finite y → Number (x ⊗ y)
mul-number {x} {y} f g = rounded_number (mul_rounds x y f.holds g.holds)

pub div-number : {x y : Float} → Finite x → Finite y → NonZero y → Number (x ⊘ y)
unfolding div
div-number {x} {y} f g n = record { holds = go x y f.holds g.holds n.holds }
  where
    pick : (b : Bool) (s : Bool) (a c : ℕ) (w : Float) → (T b → ⊥) → T (not (is_nan (cond b w (round binary64 s a c))))
    pick true s a c w h = absurd (h tt)
    pick false s a c w h = round_number s a c

    go : (x y : Float) → T (finite x) → T (finite y) → T (not (eq y (whole 0))) → T (not (is_nan (x ⊘ y)))
    go nan y f g n = absurd f
    go (inf s) y f g n = absurd f
    go (fin s m e) nan f g n = absurd g
    go (fin s m e) (inf t) f g n = absurd g
    go (fin s m e) (fin t k d) f g n =
        pick (eqb k 0) (unlike s t) (m * up e * down d) (k * up d * down e) (cond (eqb m 0) nan (inf (unlike s t)))
        (λ h. lt_irrefl 0 (omega (arith, eqb→eq k 0 h, digits_pos t k d n)))

-- a sum of what is not negative is no NaN, the infinity included
pub add_nonneg_number : {x y : Float} → whole 0 ≼ x → whole 0 ≼ y → Number (x ⊕ y)
unfolding add le whole
add_nonneg_number {x} {y} h k = record { holds = go x y h.holds k.holds }
  where
    go : (x y : Float) → T (le (whole 0) x) → T (le (whole 0) y) → T (not (is_nan (x ⊕ y)))
    go nan y h k = absurd h
    go (inf true) y h k = absurd h
    go (inf false) nan h k = absurd k
    go (inf false) (inf true) h k = absurd k
    go (inf false) (inf false) h k = unfold is_nan in tt
    go (inf false) (fin t n d) h k = unfold is_nan in tt
    go (fin s m e) nan h k = absurd k
    go (fin s m e) (inf t) h k = unfold is_nan in tt
    go (fin s m e) (fin t n d) h k = (add-number {x = fin s m e} {y = fin t n d} (record { holds = tt }) (record { holds = tt })).holds

-- a number and a finite double
pub add_finite_number : {x y : Float} → Number x → Finite y → Number (x ⊕ y)
unfolding add
add_finite_number {x} {y} h k = record { holds = go x y h.holds k.holds }
  where
    go : (x y : Float) → T (not (is_nan x)) → T (finite y) → T (not (is_nan (x ⊕ y)))
    go nan y h k = h
    go (inf s) nan h k = absurd k
    go (inf s) (inf t) h k = absurd k
    go (inf s) (fin t n d) h k = unfold is_nan in tt
    go (fin s m e) nan h k = absurd k
    go (fin s m e) (inf t) h k = absurd k
    go (fin s m e) (fin t n d) h k = (add-number {x = fin s m e} {y = fin t n d} (record { holds = tt }) (record { holds = tt })).holds

pub sub_finite_number : {x y : Float} → Number x → Finite y → Number (x ⊖ y)
unfolding sub
sub_finite_number {x} {y} h k = add_finite_number {x = x} {y = neg y} h (neg_finite k)

-- ---- results of what is not negative are not negative

pub zero_number : Number (whole 0)
unfolding whole is_nan
zero_number = record { holds = tt }

pub one_number : Number (whole 1)
unfolding whole is_nan
one_number = record { holds = tt }

pub zero-le_one : whole 0 ≼ whole 1
unfolding whole le
zero-le_one = record { holds = tt }

zero-add-zero : whole 0 ⊕ whole 0 ≡ whole 0
unfolding whole add
zero-add-zero = refl

zero-mul-zero : whole 0 ⊗ whole 0 ≡ whole 0
unfolding whole mul
zero-mul-zero = refl

pub add_nonneg : {x y : Float} → whole 0 ≼ x → whole 0 ≼ y → whole 0 ≼ x ⊕ y
add_nonneg {x} {y} h k =
    rw zero-add-zero at (add_mono h k (rw zero-add-zero zero_number) (add_nonneg_number h k))

pub mul_nonneg : {x y : Float} → whole 0 ≼ x → whole 0 ≼ y → Number (x ⊗ y) → whole 0 ≼ x ⊗ y
mul_nonneg {x} {y} h k n =
    rw zero-mul-zero at (mul_mono (le_refl zero_number) (le_refl zero_number) h k (rw zero-mul-zero zero_number) n)

-- 0 over what is above zero is +0
pub zero_over : {y : Float} → whole 0 ≺ y → whole 0 ⊘ y ≡ whole 0
unfolding div whole lt
zero_over {y} h = go y h.holds
  where
    pick : (b : Bool) (a c : ℕ) (w : Float) → (T b → ⊥) → a ≡ 0 → 0 < c → cond b w (round binary64 false a c) ≡ whole 0
    pick true a c w h A C = absurd (h tt)
    pick false a c w h A C = rw A (zero-round c C)

    go : (y : Float) → T (lt (whole 0) y) → whole 0 ⊘ y ≡ whole 0
    go nan h = absurd h
    go (inf true) h = absurd h
    go (inf false) h = refl
    go (fin true m e) h = absurd h
    go (fin false m e) h =
        let p : 0 < m = ltb→lt 0 m (positive_of false m e h) in
        pick (eqb m 0) (0 * 1 * down e) (m * up e * 1) (cond (eqb 0 0) nan (inf false)) (λ t. lt_irrefl 0 (omega (arith, eqb→eq m 0 t))) (omega arith)
        (mul-pos (mul-pos p (up_pos e)) (lit< tt))

pub div_nonneg : {x y : Float} → whole 0 ≼ x → whole 0 ≺ y → Number (x ⊘ y) → whole 0 ≼ x ⊘ y
div_nonneg {x} {y} h p n = rw (zero_over p) at (div_mono p h (rw (zero_over p) zero_number) n)

-- ---- x − y ≤ x ≤ x + y for y ≥ 0

-- z is a zero, finite x fits: x + z is level with x
module _ (x : Float) (g : T (finite x)) (f : T (fits binary64 x)) where
  below_add_zero : x ≼ x ⊕ whole 0
  unfolding whole
  below_add_zero =
      rounded_mono x (x ⊕ whole 0) (positive_part x) (negative_part x) (den x)
      (positive_part x * 1 + 0 * 1 * den x) (negative_part x * 1 + 0 * den x) (den x * 1) (den_pos x) (mul-pos (den_pos x) (lit< tt))
      (own_rounded x g f) (add_rounds x (whole 0) g tt) (omega arith)

  sub_zero_below : x ⊖ whole 0 ≼ x
  unfolding whole sub neg
  sub_zero_below =
      rounded_mono (x ⊖ whole 0) x (positive_part x * 1 + 0 * den x) (negative_part x * 1 + 0 * 1 * den x) (den x * 1)
      (positive_part x) (negative_part x) (den x) (mul-pos (den_pos x) (lit< tt)) (den_pos x)
      (add_rounds x (neg (whole 0)) g tt) (own_rounded x g f) (omega arith)

pub finite_zero : Finite (whole 0)
unfolding whole
finite_zero = record { holds = tt }

pub sub-le : {x y : Float} → Fits x → whole 0 ≼ y → Number (x ⊖ y) → x ⊖ y ≼ x
unfolding sub add neg is_nan
sub-le {x} {y} f h n = go x y f.holds h n
  where
    go : (x y : Float) → T (fits binary64 x) → whole 0 ≼ y → Number (x ⊖ y) → x ⊖ y ≼ x
    go nan y f h n = absurd n.holds
    go (inf true) nan f h n = absurd n.holds
    go (inf true) (inf true) f h n = absurd n.holds
    go (inf true) (inf false) f h n = bottom (record { holds = tt })
    go (inf true) (fin t k d) f h n = bottom (record { holds = tt })
    go (inf false) y f h n = top n
    go (fin s m e) y f h n =
        let number : Number (fin s m e) = record { holds = tt } in
        le_trans (sub_mono (le_refl number) h n (sub_finite_number {x = fin s m e} number finite_zero)) (sub_zero_below (fin s m e) tt f)

pub le-add : {x y : Float} → Fits x → whole 0 ≼ y → Number (x ⊕ y) → x ≼ x ⊕ y
unfolding add is_nan
le-add {x} {y} f h n = go x y f.holds h n
  where
    go : (x y : Float) → T (fits binary64 x) → whole 0 ≼ y → Number (x ⊕ y) → x ≼ x ⊕ y
    go nan y f h n = absurd n.holds
    go (inf true) y f h n = bottom n
    go (inf false) nan f h n = absurd n.holds
    go (inf false) (inf true) f h n = absurd n.holds
    go (inf false) (inf false) f h n = top (record { holds = tt })
    go (inf false) (fin t k d) f h n = top (record { holds = tt })
    go (fin s m e) y f h n =
        let number : Number (fin s m e) = record { holds = tt } in
        le_trans (below_add_zero (fin s m e) tt f) (add_mono (le_refl number) h (add_finite_number {x = fin s m e} number finite_zero) n)

-- ---- a difference of ordered numbers is not negative

-- x − x is +0
pub sub_self : {x : Float} → Finite x → x ⊖ x ≡ whole 0
unfolding sub add sum neg whole
sub_self {x} f = go x f.holds
  where
    zeros : (s b : Bool) (a c : ℕ) → (T b → ⊥) → 0 < c → cond b (round binary64 (not s) (a - a) c) (round binary64 (s && b) (a - a) c) ≡ whole 0
    zeros s true a c h C = absurd (h tt)
    zeros true false a c h C = rw (native.Mathlib.Nat.sub_self a) (zero-round c C)
    zeros false false a c h C = rw (native.Mathlib.Nat.sub_self a) (zero-round c C)

    go : (x : Float) → T (finite x) → x ⊖ x ≡ whole 0
    go nan f = absurd f
    go (inf s) f = absurd f
    go (fin true m e) f =
        let a = m * up e * down e in
        zeros true (ltb a a) a (down e * down e) (λ t. lt_irrefl a (ltb→lt a a t)) (mul-pos (down_pos e) (down_pos e))
    go (fin false m e) f =
        let a = m * up e * down e in
        zeros false (ltb a a) a (down e * down e) (λ t. lt_irrefl a (ltb→lt a a t)) (mul-pos (down_pos e) (down_pos e))

sub_infinite : (x : Float) (t : Bool) → inf t ≼ x → Number (x ⊖ inf t) → whole 0 ≼ x ⊖ inf t
unfolding sub add neg is_nan whole le
sub_infinite nan t h n = absurd n.holds
sub_infinite (inf true) true h n = absurd n.holds
sub_infinite (inf true) false h n = absurd h.holds
sub_infinite (inf false) true h n = record { holds = tt }
sub_infinite (inf false) false h n = absurd n.holds
sub_infinite (fin s m e) true h n = record { holds = tt }
sub_infinite (fin s m e) false h n = absurd h.holds

pub sub_nonneg : {x y : Float} → y ≼ x → Number (x ⊖ y) → whole 0 ≼ x ⊖ y
unfolding is_nan
sub_nonneg {x} {y} h n = go x y h n
  where
    go : (x y : Float) → y ≼ x → Number (x ⊖ y) → whole 0 ≼ x ⊖ y
    go x nan h n = absurd (left_number h).holds
    go x (inf t) h n = sub_infinite x t h n
    go x (fin t k d) h n =
        let f : Finite (fin t k d) = record { holds = tt } in
        rw (sub_self f) at (sub_mono h (le_refl {x = fin t k d} (record { holds = tt })) (rw (sub_self f) zero_number) n)

-- ---- quotients of at most 1

pub positive_nonzero : {y : Float} → whole 0 ≺ y → NonZero y
unfolding le
positive_nonzero {y} p = record {
  holds = not_T (eq y (whole 0)) (λ e. lt_excludes p (record { holds = or_right (lt y (whole 0)) (eq y (whole 0)) e }));
}

pub div-le_one : {x z : Float} → whole 0 ≺ z → x ≼ z → Number (x ⊘ z) → x ⊘ z ≼ whole 1
unfolding div is_nan whole lt
div-le_one {x} {z} p h n = go x z p h n
  where
    go : (x z : Float) → whole 0 ≺ z → x ≼ z → Number (x ⊘ z) → x ⊘ z ≼ whole 1
    go x nan p h n = absurd p.holds
    go x (inf true) p h n = absurd p.holds
    go nan (inf false) p h n = absurd n.holds
    go (inf s) (inf false) p h n = absurd n.holds
    go (fin true m e) (inf false) p h n = record { holds = unfold le in tt }
    go (fin false m e) (inf false) p h n = record { holds = unfold le in tt }
    go x (fin t k d) p h n =
        let one : fin t k d ⊘ fin t k d ≡ whole 1 = div_self (record { holds = tt }) (positive_nonzero p) in
        rw one at (div_mono p h n (rw one one_number))

-- ---- a result that is a number comes of numbers

nan-number : {A : Type 0} → Number nan → A
unfolding is_nan
nan-number n = absurd n.holds

pub add_operands : {x y : Float} → Number (x ⊕ y) → Number x × Number y
unfolding add is_nan
add_operands {x} {y} n = go x y n
  where
    go : (x y : Float) → Number (x ⊕ y) → Number x × Number y
    go nan y n = nan-number n
    go (inf s) nan n = nan-number n
    go (fin s m e) nan n = nan-number n
    go (inf s) (inf t) n = (record { holds = tt }, record { holds = tt })
    go (inf s) (fin t k d) n = (record { holds = tt }, record { holds = tt })
    go (fin s m e) (inf t) n = (record { holds = tt }, record { holds = tt })
    go (fin s m e) (fin t k d) n = (record { holds = tt }, record { holds = tt })

pub sub_operands : {x y : Float} → Number (x ⊖ y) → Number x × Number y
unfolding sub
sub_operands {x} {y} n =
    let p : Number x × Number (neg y) = add_operands n in
    (p.0, subst Number (neg-neg y) (neg-number p.1))

pub mul_operands : {x y : Float} → Number (x ⊗ y) → Number x × Number y
unfolding mul is_nan
mul_operands {x} {y} n = go x y n
  where
    go : (x y : Float) → Number (x ⊗ y) → Number x × Number y
    go nan y n = nan-number n
    go (inf s) nan n = nan-number n
    go (fin s m e) nan n = nan-number n
    go (inf s) (inf t) n = (record { holds = tt }, record { holds = tt })
    go (inf s) (fin t k d) n = (record { holds = tt }, record { holds = tt })
    go (fin s m e) (inf t) n = (record { holds = tt }, record { holds = tt })
    go (fin s m e) (fin t k d) n = (record { holds = tt }, record { holds = tt })

pub div_operands : {x y : Float} → Number (x ⊘ y) → Number x × Number y
unfolding div is_nan
div_operands {x} {y} n = go x y n
  where
    go : (x y : Float) → Number (x ⊘ y) → Number x × Number y
    go nan y n = nan-number n
    go (inf s) nan n = nan-number n
    go (fin s m e) nan n = nan-number n
    go (inf s) (inf t) n = (record { holds = tt }, record { holds = tt })
    go (inf s) (fin t k d) n = (record { holds = tt }, record { holds = tt })
    go (fin s m e) (inf t) n = (record { holds = tt }, record { holds = tt })
    go (fin s m e) (fin t k d) n = (record { holds = tt }, record { holds = tt })

-- ---- what is cut off at a bound from below

-- x where it is not below the bound, else the bound
pub cut_below : (b x : Float) → Number b → Number (cond (lt x b) b x) → b ≼ cond (lt x b) b x
cut_below b x m n = go (lt x b) refl n
  where
    go : (t : Bool) → lt x b ≡ t → Number (cond t b x) → b ≼ cond t b x
    go true e n = le_refl m
    go false e n = le_of_not_lt n m e

-- which is a number only where x is
pub cut_operand : (b x : Float) → Number (cond (lt x b) b x) → Number x
cut_operand b x n = go (lt x b) refl n
  where
    go : (t : Bool) → lt x b ≡ t → Number (cond t b x) → Number x
    go true e n = left_number (lt→le {x = x} {y = b} (record { holds = rw e tt }))
    go false e n = n
