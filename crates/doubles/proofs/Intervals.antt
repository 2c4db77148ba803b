-- Interval arithmetic: where a sum, a difference, a product or a quotient lies, by where its operands lie. The last argument of each
-- law is a test of the ends, which the checker computes where they are constants. Assumes nothing.
use Rattle.std.proofs.Common.{◌≡◌, ℕ, zero, suc, ◌+◌, ◌*◌, ◌<◌, ◌≤◌, Bool, true, false, cond, not, ◌&&◌, T, eqb, ◌⊎◌, ℤ, pos, negsuc, nat_abs, refl, ap, ◌∙◌, subst, inl, inr, zero-lt-suc, mul-le-mul_left, mul-pos, arith}
use native.Mathlib.Decide.{dec_le}
use lib.Ieee.{Float, nan, inf, fin, binary64, up, down, unlike, round, mul, div, neg, lt, le, is_nan, of_int}
use lib.Ieee.Fits.{up_pos}
use lib.Ieee.Order.{round_mono}
use lib.Ieee.Positive.{den, den_pos, positive}
use lib.Ieee.Scale.{finite}
use Rattle.doubles.specs.Arithmetic.{◌⊕◌, ◌⊖◌, ◌⊗◌, ◌⊘◌, whole}
use Rattle.doubles.specs.Series.{horner}
use Rattle.doubles.specs.Order.{◌≼◌, ◌≺◌, InRange, Bounded, Number, Finite}
use Rattle.doubles.proofs.Order.{positive_part, negative_part, left_side, right_side, eq→eqb, cross→lt, le→cross, top, le_refl, le_trans, lt→le, lt-le_trans, left_number, right_number, le_of_not_lt, neg_finite, neg-number, neg-le, neg-neg}
use Rattle.doubles.proofs.Rounding.{round-neg, product_comm, first_zero, rounded_mono, div_rounds}
use Rattle.doubles.proofs.Monotone.{add_mono, sub_mono, no_negative_part, mul_mono, positive_part_lem, positive_of, div_mono}
use Rattle.doubles.proofs.Bounds.{add-number, sub_number, mul-number, div-number, positive_nonzero, mul_nonneg, mul_operands, div_nonneg, div_operands, zero_number}
use Rattle.doubles.proofs.Differences.{between_finite}
use Rattle.doubles.proofs.Ranges.{Between, finite_between, both_of}

-- ---- what lies in a range

pub in_number : {a b x : Float} → InRange a b x → Number x
in_number r = left_number r.to

pub own_range : {x : Float} → Number x → InRange x x x
own_range n = record { from = le_refl n; to = le_refl n }

pub between_range : {c x : Float} → Between c x → InRange (whole 0) c x
between_range b = record { from = b.low; to = b.high }

pub in_finite : {a b x : Float} → Finite a → Finite b → InRange a b x → Finite x
in_finite f g r = between_finite f g r.from r.to

pub widen : {l h a b x : Float} → InRange a b x → T (le l a && le b h) → InRange l h x
widen {l} {h} {a} {b} r t =
    let s = both_of (le l a) (le b h) t in
    record { from = le_trans (record { holds = s.0 }) r.from; to = le_trans r.to (record { holds = s.1 }) }

-- ---- sums and differences

-- Four ends of operands are finite, and low and high, which come of them, lie from l to h: tested, and as facts.
abbrev pub holds_ends : Float → Float → Float → Float → Float → Float → Float → Float → Bool
holds_ends a b c d l low high h = finite a && finite b && (finite c && finite d) && (le l low && le high h)

record Ends (a b c d l low high h : Float) : Type 0 where
  a_finite : Finite a
  b_finite : Finite b
  c_finite : Finite c
  d_finite : Finite d
  below : l ≼ low
  above : high ≼ h

ends : (a b c d l low high h : Float) → T (holds_ends a b c d l low high h) → Ends a b c d l low high h
ends a b c d l low high h t =
    let s = both_of (finite a && finite b && (finite c && finite d)) (le l low && le high h) t in
    let p = both_of (finite a && finite b) (finite c && finite d) s.0 in
    let first = both_of (finite a) (finite b) p.0 in
    let second = both_of (finite c) (finite d) p.1 in
    let order = both_of (le l low) (le high h) s.1 in
    record {
      a_finite = record { holds = first.0 };
      b_finite = record { holds = first.1 };
      c_finite = record { holds = second.0 };
      d_finite = record { holds = second.1 };
      below = record { holds = order.0 };
      above = record { holds = order.1 };
    }

pub add_in : {l h a b c d x y : Float} → InRange a b x → InRange c d y → T (holds_ends a b c d l (a ⊕ c) (b ⊕ d) h) → InRange l h (x ⊕ y)
add_in {l} {h} {a} {b} {c} {d} p q t =
    let e = ends a b c d l (a ⊕ c) (b ⊕ d) h t in
    let n = add-number (in_finite e.a_finite e.b_finite p) (in_finite e.c_finite e.d_finite q) in
    record {
      from = le_trans e.below (add_mono p.from q.from (add-number e.a_finite e.c_finite) n);
      to = le_trans (add_mono p.to q.to n (add-number e.b_finite e.d_finite)) e.above;
    }

pub sub_in : {l h a b c d x y : Float} → InRange a b x → InRange c d y → T (holds_ends a b c d l (a ⊖ d) (b ⊖ c) h) → InRange l h (x ⊖ y)
sub_in {l} {h} {a} {b} {c} {d} p q t =
    let e = ends a b c d l (a ⊖ d) (b ⊖ c) h t in
    let n = sub_number (in_finite e.a_finite e.b_finite p) (in_finite e.c_finite e.d_finite q) in
    record {
      from = le_trans e.below (sub_mono p.from q.to (sub_number e.a_finite e.d_finite) n);
      to = le_trans (sub_mono p.to q.from n (sub_number e.b_finite e.c_finite)) e.above;
    }

-- ---- quotients by what is above zero

pub div_in : {l h a b x : Float} (d : Float) → InRange a b x → T (lt (whole 0) d) → T (holds_ends a b d d l (a ⊘ d) (b ⊘ d) h) → InRange l h (x ⊘ d)
div_in {l} {h} {a} {b} d p z t =
    let e = ends a b d d l (a ⊘ d) (b ⊘ d) h t in
    let positive : whole 0 ≺ d = record { holds = z } in
    let not-zero = positive_nonzero positive in
    let n = div-number (in_finite e.a_finite e.b_finite p) e.c_finite not-zero in
    record {
      from = le_trans e.below (div_mono positive p.from (div-number e.a_finite e.c_finite not-zero) n);
      to = le_trans (div_mono positive p.to n (div-number e.b_finite e.c_finite not-zero)) e.above;
    }

-- ---- about zero

pub bounded : {c a b x : Float} → InRange a b x → T (le (neg c) a && le b c) → Bounded c x
bounded {c} {a} {b} r t =
    let s = widen {l = neg c} {h = c} r t in
    record { from = s.from; to = s.to }

pub as_range : {c x : Float} → Bounded c x → InRange (neg c) c x
as_range r = record { from = r.from; to = r.to }

pub bounded_number : {c x : Float} → Bounded c x → Number x
bounded_number r = left_number r.to

pub bounded_finite : {c x : Float} → Finite c → Bounded c x → Finite x
bounded_finite f r = between_finite (neg_finite f) f r.from r.to

pub neg_bounded : {c x : Float} → Bounded c x → Bounded c (neg x)
neg_bounded {c} r = record { from = neg-le r.to; to = rw (neg-neg c) at (neg-le r.from) }

-- what has a bounded opposite
turned_bounded : {c x y : Float} → y ≡ neg x → Bounded c y → Bounded c x
turned_bounded {x} e r = rw (neg-neg x) at (neg_bounded (rw e at r))

-- what is cut off at 0 from below
pub cut_in : {c x : Float} → whole 0 ≼ c → Bounded c x → InRange (whole 0) c (cond (lt x (whole 0)) (whole 0) x)
cut_in {c} {x} z r = go (lt x (whole 0)) refl
  where
    go : (b : Bool) → lt x (whole 0) ≡ b → InRange (whole 0) c (cond b (whole 0) x)
    go true e = record { from = le_refl zero_number; to = z }
    go false e = record { from = le_of_not_lt (bounded_number r) zero_number e; to = r.to }

pub more_bounded : {c d x : Float} → Bounded c x → T (le (neg d) (neg c) && le c d) → Bounded d x
more_bounded r t = bounded (as_range r) t

pub add_bounded : {h a b x y : Float} → Bounded a x → Bounded b y → T (holds_ends (neg a) a (neg b) b (neg h) (neg a ⊕ neg b) (a ⊕ b) h) → Bounded h (x ⊕ y)
add_bounded {h} p q t =
    let r = add_in {l = neg h} {h = h} (as_range p) (as_range q) t in
    record { from = r.from; to = r.to }

pub sub_bounded : {h a b x y : Float} → Bounded a x → Bounded b y → T (holds_ends (neg a) a (neg b) b (neg h) (neg a ⊖ b) (a ⊖ neg b) h) → Bounded h (x ⊖ y)
sub_bounded {h} p q t =
    let r = sub_in {l = neg h} {h = h} (as_range p) (as_range q) t in
    record { from = r.from; to = r.to }

pub div_bounded : {h a x : Float} (d : Float) → Bounded a x → T (lt (whole 0) d) → T (holds_ends (neg a) a d d (neg h) (neg a ⊘ d) (a ⊘ d) h) → Bounded h (x ⊘ d)
div_bounded {h} d p z t =
    let r = div_in {l = neg h} {h = h} d (as_range p) z t in
    record { from = r.from; to = r.to }

round_turned : (s : Bool) (a c : ℕ) → round binary64 (not s) a c ≡ neg (round binary64 s a c)
round_turned true a c = rw (round-neg a c, neg-neg (round binary64 false a c)) refl
round_turned false a c = round-neg a c

pub mul_turned : (x y : Float) → T (finite x) → T (finite y) → (neg x ⊗ y ≡ neg (x ⊗ y)) × (x ⊗ neg y ≡ neg (x ⊗ y))
unfolding mul neg
mul_turned nan y f g = absurd f
mul_turned (inf s) y f g = absurd f
mul_turned (fin s m e) nan f g = absurd g
mul_turned (fin s m e) (inf t) f g = absurd g
mul_turned (fin s m e) (fin t n d) f g = go s t
  where
    turned : (s : Bool) → round binary64 (not s) (m * up e * (n * up d)) (down e * down d) ≡ neg (round binary64 s (m * up e * (n * up d)) (down e * down d))
    turned s = round_turned s (m * up e * (n * up d)) (down e * down d)

    go : (s t : Bool) → (neg (fin s m e) ⊗ fin t n d ≡ neg (fin s m e ⊗ fin t n d)) × (fin s m e ⊗ neg (fin t n d) ≡ neg (fin s m e ⊗ fin t n d))
    go true true = (turned false, turned false)
    go true false = (turned true, turned true)
    go false true = (turned true, turned true)
    go false false = (turned false, turned false)

unlike_not : (s t : Bool) → unlike (not s) t ≡ not (unlike s t)
unlike_not true true = refl
unlike_not true false = refl
unlike_not false true = refl
unlike_not false false = refl

-- the first factor's opposite, of infinities and NaN too
mul-neg : (x y : Float) → neg x ⊗ y ≡ neg (x ⊗ y)
unfolding mul neg
mul-neg nan y = refl
mul-neg (inf s) nan = refl
mul-neg (inf s) (inf t) = ap inf (unlike_not s t)
mul-neg (inf s) (fin t n d) = go (eqb n 0)
  where
    go : (b : Bool) → cond b nan (inf (unlike (not s) t)) ≡ neg (cond b nan (inf (unlike s t)))
    go true = refl
    go false = ap inf (unlike_not s t)
mul-neg (fin s m e) nan = refl
mul-neg (fin s m e) (inf t) = go (eqb m 0)
  where
    go : (b : Bool) → cond b nan (inf (unlike (not s) t)) ≡ neg (cond b nan (inf (unlike s t)))
    go true = refl
    go false = ap inf (unlike_not s t)
mul-neg (fin s m e) (fin t n d) = (mul_turned (fin s m e) (fin t n d) tt tt).0

-- a square is that of the opposite
pub square_turned : (x : Float) → T (finite x) → neg x ⊗ neg x ≡ x ⊗ x
square_turned x f = (mul_turned x (neg x) f (neg_finite (record { holds = f })).holds).0 ∙ ap neg (mul_turned x x f f).1 ∙ neg-neg (x ⊗ x)

pub minus_zero : whole 0 ≼ neg (whole 0)
unfolding whole neg le
minus_zero = record { holds = tt }

zero_minus : neg (whole 0) ≼ whole 0
unfolding whole neg le
zero_minus = record { holds = tt }

-- times a number that is not negative keeps the order, whatever the signs
pub mul_keeps : {x x' y : Float} → whole 0 ≼ y → x ≼ x' → Number (x ⊗ y) → Number (x' ⊗ y) → x ⊗ y ≼ x' ⊗ y
mul_keeps {x} {x'} {y} i h n m = go (lt x (whole 0)) (lt x' (whole 0)) refl refl
  where
    -- below 0 the opposite is not negative
    opposite : (z : Float) → lt z (whole 0) ≡ true → whole 0 ≼ neg z
    opposite z e = le_trans minus_zero (neg-le (lt→le {x = z} {y = whole 0} (record { holds = rw e tt })))

    above : (z : Float) → Number z → lt z (whole 0) ≡ false → whole 0 ≼ z
    above z k e = le_of_not_lt k zero_number e

    -- its product is the product's
    turned : (z : Float) → Number (z ⊗ y) → Number (neg z ⊗ y)
    turned z k = rw (mul-neg z y) (neg-number k)

    back : {a b : Float} → neg b ≼ neg a → a ≼ b
    back {a} {b} k = rw (neg-neg a, neg-neg b) at (neg-le k)

    go : (b c : Bool) → lt x (whole 0) ≡ b → lt x' (whole 0) ≡ c → x ⊗ y ≼ x' ⊗ y
    go false c e f = mul_mono (above x (left_number h) e) i h (le_refl (right_number i)) n m
    go true false e f =
        le_trans (back (le_trans zero_minus (rw (mul-neg x y) at (mul_nonneg (opposite x e) i (turned x n)))))
        (mul_nonneg (above x' (right_number h) f) i m)
    go true true e f =
        back (rw (mul-neg x y, mul-neg x' y) at (mul_mono (opposite x' f) i (neg-le h) (le_refl (right_number i)) (turned x' m) (turned x n)))

-- of what is not negative, by one factor of any sign: a larger number gives no smaller a product, or else one that is not above 0
pub mul_either : (y : Float) {x x' : Float} → whole 0 ≼ x → x ≼ x' → Number (x ⊗ y) → Number (x' ⊗ y) → (x ⊗ y ≼ whole 0) ⊎ (x ⊗ y ≼ x' ⊗ y)
mul_either y {x} {x'} i h n m = go (lt y (whole 0)) refl
  where
    turned : lt y (whole 0) ≡ true → x ⊗ y ≼ whole 0
    turned e =
        let up : whole 0 ≼ neg y = le_trans minus_zero (neg-le (lt→le {x = y} {y = whole 0} (record { holds = rw e tt }))) in
        let product : whole 0 ≼ neg (x ⊗ y) =
        rw (mul-neg y x, product_comm y x) at (mul_nonneg up i (rw (mul-neg y x, product_comm y x) (neg-number n))) in
        rw (neg-neg (x ⊗ y)) at (le_trans (neg-le product) zero_minus)

    go : (b : Bool) → lt y (whole 0) ≡ b → (x ⊗ y ≼ whole 0) ⊎ (x ⊗ y ≼ x' ⊗ y)
    go true e = inl (turned e)
    go false e = inr (mul_keeps (le_of_not_lt (mul_operands n).1 zero_number e) h n m)

-- a number about zero, or its opposite, is not negative
turn : {c x : Float} → Bounded c x → (b : Bool) → lt x (whole 0) ≡ b → Between c (cond b (neg x) x)
turn {c} {x} r true e =
    record { low = le_trans minus_zero (neg-le (lt→le {x = x} {y = whole 0} (record { holds = rw e tt }))); high = rw (neg-neg c) at (neg-le r.from) }
turn r false e = record { low = le_of_not_lt (bounded_number r) zero_number e; high = r.to }

module _ {a b h : Float} (fa : Finite a) (fb : Finite b) (top : a ⊗ b ≼ h) where
  mul_up : {x y : Float} → Between a x → Between b y → Bounded h (x ⊗ y)
  mul_up p q =
      let n = mul-number (finite_between fa p) (finite_between fb q) in
      let low = mul_nonneg p.low q.low n in
      let high = le_trans (mul_mono p.low q.low p.high q.high n (mul-number fa fb)) top in
      record { from = le_trans (neg-le (le_trans low high)) (le_trans zero_minus low); to = high }

  mul_by : {x y : Float} → Between a x → Bounded b y → Bounded h (x ⊗ y)
  mul_by {x} {y} p q = go (lt y (whole 0)) (turn q (lt y (whole 0)) refl)
    where
      go : (s : Bool) → Between b (cond s (neg y) y) → Bounded h (x ⊗ y)
      go true r = turned_bounded (mul_turned x y (finite_between fa p).holds (bounded_finite fb q).holds).1 (mul_up p r)
      go false r = mul_up p r

  mul_turns : {x y : Float} → Bounded a x → Bounded b y → Bounded h (x ⊗ y)
  mul_turns {x} {y} p q = go (lt x (whole 0)) (turn p (lt x (whole 0)) refl)
    where
      go : (s : Bool) → Between a (cond s (neg x) x) → Bounded h (x ⊗ y)
      go true r = turned_bounded (mul_turned x y (bounded_finite fa p).holds (bounded_finite fb q).holds).0 (mul_by r q)
      go false r = mul_by r q

pub mul_bounded : {h a b x y : Float} → Bounded a x → Bounded b y → T (finite a && finite b && le (a ⊗ b) h) → Bounded h (x ⊗ y)
mul_bounded {h} {a} {b} p q t =
    let s = both_of (finite a && finite b) (le (a ⊗ b) h) t in
    let f = both_of (finite a) (finite b) s.0 in
    mul_turns (record { holds = f.0 }) (record { holds = f.1 }) (record { holds = s.1 }) p q

-- ---- constants and whole numbers

pub constant : (c x : Float) → T (le (neg c) x && le x c) → Bounded c x
constant c x t =
    let s = both_of (le (neg c) x) (le x c) t in
    record { from = record { holds = s.0 }; to = record { holds = s.1 } }

pub whole_le : (m n : ℕ) → m ≤ n → whole m ≼ whole n
unfolding whole of_int
whole_le m n h = record { holds = round_mono binary64 m 1 n 1 (zero-lt-suc 0) (zero-lt-suc 0) (omega arith) }

pub whole_bounded : (c n : ℕ) → n ≤ c → Bounded (whole c) (whole n)
whole_bounded c n h =
    let low = whole_le 0 n (omega arith) in
    record { from = le_trans (neg-le (whole_le 0 c (omega arith))) (le_trans zero_minus low); to = whole_le n c h }

pub int_bounded : (c : ℕ) (z : ℤ) → nat_abs z ≤ c → Bounded (whole c) (of_int binary64 z)
int_bounded c (pos n) h = unfold whole in whole_bounded c n h
int_bounded c (negsuc n) h = unfold of_int in rw (round-neg (suc n) 1) (unfold whole in neg_bounded (whole_bounded c (suc n) h))

-- ---- products and quotients of what is not negative

pub mul_in : {l h a b c d x y : Float} → InRange a b x → InRange c d y → T (le (whole 0) a && le (whole 0) c) → T (holds_ends a b c d l (a ⊗ c) (b ⊗ d) h) → InRange l h (x ⊗ y)
mul_in {l} {h} {a} {b} {c} {d} p q z t =
    let e = ends a b c d l (a ⊗ c) (b ⊗ d) h t in
    let s = both_of (le (whole 0) a) (le (whole 0) c) z in
    let zero_a : whole 0 ≼ a = record { holds = s.0 } in
    let zero-c : whole 0 ≼ c = record { holds = s.1 } in
    let n = mul-number (in_finite e.a_finite e.b_finite p) (in_finite e.c_finite e.d_finite q) in
    record {
      from = le_trans e.below (mul_mono zero_a zero-c p.from q.from (mul-number e.a_finite e.c_finite) n);
      to = le_trans (mul_mono (le_trans zero_a p.from) (le_trans zero-c q.from) p.to q.to n (mul-number e.b_finite e.d_finite)) e.above;
    }

above_zero_lem : (y : Float) → T (finite y) → whole 0 ≺ y → T (positive y)
above_zero_lem nan f p = absurd f
above_zero_lem (inf s) f p = absurd f
above_zero_lem (fin s m e) f p = positive_of s m e p.holds

-- by a larger divisor the quotient is no larger
div_larger : (x y z : Float) → T (finite x) → T (finite y) → T (finite z) → whole 0 ≼ x → whole 0 ≺ y → y ≼ z → x ⊘ z ≼ x ⊘ y
div_larger x y z f g k h p l =
    let nx = no_negative_part x f h in
    let ny = no_negative_part y g (lt→le p) in
    let nz = no_negative_part z k (le_trans (lt→le p) l) in
    let py = above_zero_lem y g p in
    let pz = above_zero_lem z k (lt-le_trans p l) in
    rounded_mono (x ⊘ z) (x ⊘ y)
    (positive_part x * den z) (negative_part x * den z) (positive_part z * den x)
    (positive_part x * den y) (negative_part x * den y) (positive_part y * den x)
    (mul-pos (positive_part_lem z pz) (den_pos x)) (mul-pos (positive_part_lem y py) (den_pos x))
    (div_rounds x z f pz) (div_rounds x y f py)
    (rw nx (larger (positive_part x) (den x) (positive_part y) (den y) (positive_part z) (den z) (cross (le→cross {x = y} {y = z} (record { holds = g }) (record { holds = k }) l) ny nz)))
  where
    cross : left_side y z ≤ right_side y z → negative_part y ≡ 0 → negative_part z ≡ 0 → positive_part y * den z ≤ positive_part z * den y
    cross c ny nz = omega (arith, rw (ny, nz) at c)

    larger : (a b u v c d : ℕ) → u * d ≤ c * v → a * d * (u * b) + 0 * v * (c * b) ≤ a * v * (c * b) + 0 * d * (u * b)
    larger a b u v c d h = omega (arith, mul-le-mul_left (a * b) h)

pub div_by_in : {l h a b c d x y : Float} → InRange a b x → InRange c d y → T (le (whole 0) a && lt (whole 0) c) → T (holds_ends a b c d l (a ⊘ d) (b ⊘ c) h) → InRange l h (x ⊘ y)
div_by_in {l} {h} {a} {b} {c} {d} {x} {y} p q z t =
    let e = ends a b c d l (a ⊘ d) (b ⊘ c) h t in
    let s = both_of (le (whole 0) a) (lt (whole 0) c) z in
    let zero_a : whole 0 ≼ a = record { holds = s.0 } in
    let zero-c : whole 0 ≺ c = record { holds = s.1 } in
    let zero-y = lt-le_trans zero-c q.from in
    let zero-d = lt-le_trans zero-y q.to in
    let fx = in_finite e.a_finite e.b_finite p in
    let fy = in_finite e.c_finite e.d_finite q in
    let n = div-number fx fy (positive_nonzero zero-y) in
    record {
      from = le_trans e.below (le_trans (div_larger a y d e.a_finite.holds fy.holds e.d_finite.holds zero_a zero-y q.to) (div_mono zero-y p.from (div-number e.a_finite fy (positive_nonzero zero-y)) n));
      to = le_trans (le_trans (div_mono zero-y p.to n (div-number e.b_finite fy (positive_nonzero zero-y))) (div_larger b c y e.b_finite.holds e.c_finite.holds fy.holds (le_trans (le_trans zero_a p.from) p.to) zero-c q.from)) e.above;
    }

-- by a divisor above zero, of what lies about zero
div_turned : (x y : Float) → T (finite x) → T (finite y) → neg x ⊘ y ≡ neg (x ⊘ y)
unfolding div neg
div_turned nan y f g = absurd f
div_turned (inf s) y f g = absurd f
div_turned (fin s m e) nan f g = absurd g
div_turned (fin s m e) (inf t) f g = absurd g
div_turned (fin s m e) (fin t n d) f g = go s t (eqb n 0) (eqb m 0)
  where
    turned : (s : Bool) → round binary64 (not s) (m * up e * down d) (n * up d * down e) ≡ neg (round binary64 s (m * up e * down d) (n * up d * down e))
    turned s = round_turned s (m * up e * down d) (n * up d * down e)

    quotient : Bool → Bool → Bool → Bool → Float
    quotient s t b c = cond b (cond c nan (inf (unlike s t))) (round binary64 (unlike s t) (m * up e * down d) (n * up d * down e))

    go : (s t b c : Bool) → quotient (not s) t b c ≡ neg (quotient s t b c)
    go s t true true = refl
    go true true true false = refl
    go true false true false = refl
    go false true true false = refl
    go false false true false = refl
    go true true false c = turned false
    go true false false c = turned true
    go false true false c = turned true
    go false false false c = turned false

unlike_right : (s t : Bool) → unlike s (not t) ≡ not (unlike s t)
unlike_right true true = refl
unlike_right true false = refl
unlike_right false true = refl
unlike_right false false = refl

-- the divisor's opposite, of infinities and NaN too
div-neg : (x y : Float) → x ⊘ neg y ≡ neg (x ⊘ y)
unfolding div neg
div-neg nan y = refl
div-neg (inf s) nan = refl
div-neg (inf s) (inf t) = refl
div-neg (inf s) (fin t n d) = ap inf (unlike_right s t)
div-neg (fin s m e) nan = refl
div-neg (fin s m e) (inf t) = ap (λ (b : Bool). fin b 0 (pos 0)) (unlike_right s t)
div-neg (fin s m e) (fin t n d) = go (eqb n 0) (eqb m 0)
  where
    a : ℕ
    a = m * up e * down d

    c : ℕ
    c = n * up d * down e

    go : (p q : Bool) → cond p (cond q nan (inf (unlike s (not t)))) (round binary64 (unlike s (not t)) a c) ≡ neg (cond p (cond q nan (inf (unlike s t))) (round binary64 (unlike s t) a c))
    go true true = refl
    go true false = ap inf (unlike_right s t)
    go false q = ap (λ (b : Bool). round binary64 b a c) (unlike_right s t) ∙ round_turned (unlike s t) a c

-- what is not negative, over a zero without a sign
over_zero : (x : Float) (d : ℤ) → whole 0 ≼ x → Number (x ⊘ fin false 0 d) → x ⊘ fin false 0 d ≡ inf false
unfolding div whole le is_nan
over_zero nan d h n = absurd n.holds
over_zero (inf true) d h n = absurd h.holds
over_zero (inf false) d h n = refl
over_zero (fin false m e) d h n = go (eqb m 0) n.holds
  where
    go : (b : Bool) → T (not (is_nan (cond b nan (inf false)))) → cond b nan (inf false) ≡ inf false
    go true t = absurd t
    go false t = refl
over_zero (fin true m e) d h n = go (eqb m 0) (eq→eqb m 0 (first_zero m (up e) (up_pos e) (no_negative_part (fin true m e) tt h))) n.holds
  where
    go : (b : Bool) → T b → T (not (is_nan (cond b nan (inf true)))) → cond b nan (inf true) ≡ inf false
    go true s t = absurd t
    go false s t = absurd s

digits_above : (n : ℕ) (d : ℤ) → whole 0 ≺ fin false (suc n) d
unfolding whole
digits_above n d = record { holds = cross→lt (whole 0) (fin false (suc n) d) tt tt (omega (arith, mul-pos (zero-lt-suc n) (up_pos d))) }

-- by one divisor a larger number gives no smaller a quotient, or else one that is not above 0
pub div_either : (y : Float) {x x' : Float} → whole 0 ≼ x → x ≼ x' → Number (x ⊘ y) → Number (x' ⊘ y) → (x ⊘ y ≼ whole 0) ⊎ (x ⊘ y ≼ x' ⊘ y)
unfolding neg whole lt is_nan
div_either y {x} {x'} i h n m = go y n m
  where
    turned : (y : Float) → Number (x ⊘ neg y) → Number (x ⊘ y)
    turned y n = subst Number (neg-neg (x ⊘ y)) (neg-number (subst Number (div-neg x y) n))

    opposite : (y : Float) → whole 0 ≼ x ⊘ y → x ⊘ neg y ≼ whole 0
    opposite y h = rw (div-neg x y) (le_trans (neg-le h) zero_minus)

    over_positive : (y : Float) → whole 0 ≺ y → Number (x ⊘ neg y) → x ⊘ neg y ≼ whole 0
    over_positive y p n = opposite y (div_nonneg i p (turned y n))

    go : (y : Float) → Number (x ⊘ y) → Number (x' ⊘ y) → (x ⊘ y ≼ whole 0) ⊎ (x ⊘ y ≼ x' ⊘ y)
    go nan n m = absurd (div_operands {x = x} {y = nan} n).1.holds
    go (inf false) n m = inr (div_mono {y = inf false} (record { holds = tt }) h n m)
    go (inf true) n m = inl (over_positive (inf false) (record { holds = tt }) n)
    go (fin false zero d) n m = inr (rw (over_zero x d i n, over_zero x' d (le_trans i h) m) (le_refl (record { holds = tt })))
    go (fin false (suc k) d) n m = inr (div_mono (digits_above k d) h n m)
    go (fin true zero d) n m = inl (opposite (fin false 0 d) (rw (over_zero x d i (turned (fin false 0 d) n)) (top zero_number)))
    go (fin true (suc k) d) n m = inl (over_positive (fin false (suc k) d) (digits_above k d) n)

pub div_by_bounded : {h a c d x y : Float} → Bounded a x → InRange c d y → T (le (whole 0) a && lt (whole 0) c) → T (holds_ends (whole 0) a c d (neg h) (whole 0 ⊘ d) (a ⊘ c) h) → Bounded h (x ⊘ y)
div_by_bounded {h} {a} {c} {d} {x} {y} p q z t = go (lt x (whole 0)) (turn p (lt x (whole 0)) refl)
  where
    e : Ends (whole 0) a c d (neg h) (whole 0 ⊘ d) (a ⊘ c) h
    e = ends (whole 0) a c d (neg h) (whole 0 ⊘ d) (a ⊘ c) h t

    positive_start : T (le (whole 0) (whole 0) && lt (whole 0) c)
    positive_start = unfold whole le in (both_of (le (whole 0) a) (lt (whole 0) c) z).1

    by : {w : Float} → Between a w → Bounded h (w ⊘ y)
    by b = let r = div_by_in {l = neg h} {h = h} (between_range b) q positive_start t in record { from = r.from; to = r.to }

    go : (s : Bool) → Between a (cond s (neg x) x) → Bounded h (x ⊘ y)
    go true b = turned_bounded (div_turned x y (bounded_finite e.b_finite p).holds (in_finite e.c_finite e.d_finite q).holds) (by b)
    go false b = by b

-- ---- a test for each step of a series, from 1 up to a count

unfoldable pub tests : (ℕ → Bool) → ℕ → Bool
tests test zero = true
tests test (suc n) = test (suc n) && tests test n

pub tested : (test : ℕ → Bool) (n : ℕ) → T (tests test n) → (k : ℕ) → k < n → T (test (suc k))
unfolding tests
tested test zero t k l = absurd (omega arith)
tested test (suc n) t k l =
    let s = both_of (test (suc n)) (tests test n) t in
    elim (dec_le (suc k) n) [ yes h ↦ tested test n s.1 k h | no h ↦ last (omega arith) s.0 ]
  where
    last : k ≡ n → T (test (suc n)) → T (test (suc k))
    last e t = rw e t

-- ---- Horner's scheme: a range that every step keeps

pub horner_in : {l h : Float} (step : ℕ → Float → Float) (count : ℕ) → ((k : ℕ) → k < count → (x : Float) → InRange l h x → InRange l h (step (suc k) x))
    → (x : Float) → InRange l h x → InRange l h (horner step count x)
unfolding horner
horner_in step zero keeps x r = r
horner_in step (suc n) keeps x r = horner_in step n (λ k l. keeps k (omega arith)) (step (suc n) x) (keeps n (omega arith) x r)
