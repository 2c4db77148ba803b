-- The order of doubles: reflexive and transitive off NaN, `lt` against `le`, and what negation does to it.
-- A finite x is (positive_part x − negative_part x) / den x, one of the two parts 0, so an order of two is an inequality of natural
-- numbers, cross-multiplied. Assumes nothing.
use Rattle.std.proofs.Common.{◌≡◌, ℕ, ◌+◌, ◌*◌, ◌<◌, ◌≤◌, Bool, true, false, not, ◌&&◌, ◌||◌, T, eqb, ◌⊎◌, sym, refl, ◌∙◌, subst, inl, inr, true≢false, mul-le-mul_right, eq-or-lt_of_le, le_of_mul-le-mul_right, arith, eqb→eq, ltb→lt, lt→ltb}
use native.Mathlib.Decide.{dec_le}
use lib.Dec.{eqb_refl, not_T}
use lib.Ieee.{Float, nan, inf, fin, up, down, lt, eq, le, neg, is_nan}
use lib.Ieee.Bits.{is_false}
use lib.Ieee.Positive.{den, den_pos}
use lib.Ieee.Scale.{finite}
use Rattle.doubles.specs.Order.{◌≼◌, ◌≺◌, Number, Finite}

-- ---- truth values

or_split : (a b : Bool) → T (a || b) → T a ⊎ T b
or_split true b t = inl tt
or_split false b t = inr t

or_left : (a b : Bool) → T a → T (a || b)
or_left true b t = tt
or_left false b t = absurd t

pub or_right : (a b : Bool) → T b → T (a || b)
or_right true b t = tt
or_right false b t = t

and_left : (a b : Bool) → T (a && b) → T a
and_left true b t = tt
and_left false b t = t

and_right : (a b : Bool) → T (a && b) → T b
and_right true b t = t
and_right false b t = absurd t

pub both : (a b : Bool) → T a → T b → T (a && b)
both true b s t = t
both false b s t = s

pub eq→eqb : (a b : ℕ) → a ≡ b → T (eqb a b)
eq→eqb a b e = subst (λ (x : ℕ). T (eqb a x)) e (eqb_refl a)

-- ---- a finite double as a signed fraction

abbrev pub positive_part : Float → ℕ
positive_part nan = 0
positive_part (inf s) = 0
positive_part (fin true m e) = 0
positive_part (fin false m e) = m * up e

abbrev pub negative_part : Float → ℕ
negative_part nan = 0
negative_part (inf s) = 0
negative_part (fin true m e) = m * up e
negative_part (fin false m e) = 0

-- the two sides of x ≤ y, cross-multiplied
abbrev pub left_side : Float → Float → ℕ
left_side x y = positive_part x * den y + negative_part y * den x

abbrev pub right_side : Float → Float → ℕ
right_side x y = positive_part y * den x + negative_part x * den y

pub lt→cross : (x y : Float) → T (finite x) → T (finite y) → T (lt x y) → left_side x y < right_side x y
unfolding lt
lt→cross nan y f g h = absurd f
lt→cross (inf s) y f g h = absurd f
lt→cross (fin s m e) nan f g h = absurd g
lt→cross (fin s m e) (inf t) f g h = absurd g
lt→cross (fin false m e) (fin false n d) f g h = omega (arith, ltb→lt (m * up e * down d) (n * up d * down e) h)
lt→cross (fin false m e) (fin true n d) f g h = absurd h
lt→cross (fin true m e) (fin false n d) f g h = omega (arith, ltb→lt 0 (m * up e * down d + n * up d * down e) h)
lt→cross (fin true m e) (fin true n d) f g h = omega (arith, ltb→lt (n * up d * down e) (m * up e * down d) h)

pub cross→lt : (x y : Float) → T (finite x) → T (finite y) → left_side x y < right_side x y → T (lt x y)
unfolding lt
cross→lt nan y f g h = absurd f
cross→lt (inf s) y f g h = absurd f
cross→lt (fin s m e) nan f g h = absurd g
cross→lt (fin s m e) (inf t) f g h = absurd g
cross→lt (fin false m e) (fin false n d) f g h = lt→ltb (m * up e * down d) (n * up d * down e) (omega arith)
cross→lt (fin false m e) (fin true n d) f g h = omega arith
cross→lt (fin true m e) (fin false n d) f g h = lt→ltb 0 (m * up e * down d + n * up d * down e) (omega arith)
cross→lt (fin true m e) (fin true n d) f g h = lt→ltb (n * up d * down e) (m * up e * down d) (omega arith)

pub eq→cross : (x y : Float) → T (finite x) → T (finite y) → T (eq x y) → left_side x y ≡ right_side x y
unfolding eq
eq→cross nan y f g h = absurd f
eq→cross (inf s) y f g h = absurd f
eq→cross (fin s m e) nan f g h = absurd g
eq→cross (fin s m e) (inf t) f g h = absurd g
eq→cross (fin false m e) (fin false n d) f g h =
    omega (arith, eqb→eq (m * up e * down d) (n * up d * down e) (and_left (eqb (m * up e * down d) (n * up d * down e)) true h))
eq→cross (fin true m e) (fin true n d) f g h =
    omega (arith, eqb→eq (m * up e * down d) (n * up d * down e) (and_left (eqb (m * up e * down d) (n * up d * down e)) true h))
eq→cross (fin false m e) (fin true n d) f g h = zeros (m * up e * down d) (n * up d * down e) (down d) (down e) h
  where
    zeros : (a b c d : ℕ) → T (eqb a b && eqb a 0) → a + b ≡ 0 * d + 0 * c
    zeros a b c d t = omega (arith, eqb→eq a b (and_left (eqb a b) (eqb a 0) t), eqb→eq a 0 (and_right (eqb a b) (eqb a 0) t))
eq→cross (fin true m e) (fin false n d) f g h = zeros (m * up e * down d) (n * up d * down e) (down d) (down e) h
  where
    zeros : (a b c d : ℕ) → T (eqb a b && eqb a 0) → 0 * c + 0 * d ≡ b + a
    zeros a b c d t = omega (arith, eqb→eq a b (and_left (eqb a b) (eqb a 0) t), eqb→eq a 0 (and_right (eqb a b) (eqb a 0) t))

cross→eq : (x y : Float) → T (finite x) → T (finite y) → left_side x y ≡ right_side x y → T (eq x y)
unfolding eq
cross→eq nan y f g h = absurd f
cross→eq (inf s) y f g h = absurd f
cross→eq (fin s m e) nan f g h = absurd g
cross→eq (fin s m e) (inf t) f g h = absurd g
cross→eq (fin false m e) (fin false n d) f g h =
    both (eqb (m * up e * down d) (n * up d * down e)) true (eq→eqb (m * up e * down d) (n * up d * down e) (omega arith)) tt
cross→eq (fin true m e) (fin true n d) f g h =
    both (eqb (m * up e * down d) (n * up d * down e)) true (eq→eqb (m * up e * down d) (n * up d * down e) (omega arith)) tt
cross→eq (fin false m e) (fin true n d) f g h =
    both (eqb (m * up e * down d) (n * up d * down e)) (eqb (m * up e * down d) 0)
    (eq→eqb (m * up e * down d) (n * up d * down e) (omega arith))
    (eq→eqb (m * up e * down d) 0 (omega arith))
cross→eq (fin true m e) (fin false n d) f g h =
    both (eqb (m * up e * down d) (n * up d * down e)) (eqb (m * up e * down d) 0)
    (eq→eqb (m * up e * down d) (n * up d * down e) (omega arith))
    (eq→eqb (m * up e * down d) 0 (omega arith))

le→sides : (x y : Float) → T (finite x) → T (finite y) → T (le x y) → left_side x y ≤ right_side x y
unfolding le
le→sides x y f g h =
    elim (or_split (lt x y) (eq x y) h) [
      | inl l ↦ omega (arith, lt→cross x y f g l)
      | inr e ↦ omega (arith, eq→cross x y f g e)
    ]

sides→le : (x y : Float) → T (finite x) → T (finite y) → left_side x y ≤ right_side x y → T (le x y)
unfolding le
sides→le x y f g h =
    elim (eq-or-lt_of_le h) [
      | inl e ↦ or_right (lt x y) (eq x y) (cross→eq x y f g e)
      | inr l ↦ or_left (lt x y) (eq x y) (cross→lt x y f g l)
    ]

pub le→cross : {x y : Float} → Finite x → Finite y → x ≼ y → left_side x y ≤ right_side x y
le→cross {x} {y} f g h = le→sides x y f.holds g.holds h.holds

pub cross→le : {x y : Float} → Finite x → Finite y → left_side x y ≤ right_side x y → x ≼ y
cross→le {x} {y} f g h = record { holds = sides→le x y f.holds g.holds h }

-- ---- numbers, finite doubles and the infinities

pub finite_number : {x : Float} → Finite x → Number x
unfolding is_nan
finite_number {x} f = record { holds = go x f.holds }
  where
    go : (x : Float) → T (finite x) → T (not (is_nan x))
    go nan f = f
    go (inf s) f = absurd f
    go (fin s m e) f = tt

pub left_number : {x y : Float} → x ≼ y → Number x
unfolding le is_nan
left_number {x} {y} h = record { holds = go x y h.holds }
  where
    go : (x y : Float) → T (le x y) → T (not (is_nan x))
    go nan y h = h
    go (inf s) y h = tt
    go (fin s m e) y h = tt

pub right_number : {x y : Float} → x ≼ y → Number y
unfolding le is_nan
right_number {x} {y} h = record { holds = go x y h.holds }
  where
    go : (x y : Float) → T (le x y) → T (not (is_nan y))
    go nan y h = absurd h
    go (inf s) nan h = h
    go (fin s m e) nan h = h
    go (inf s) (inf t) h = tt
    go (inf s) (fin t n d) h = tt
    go (fin s m e) (inf t) h = tt
    go (fin s m e) (fin t n d) h = tt

-- −∞ is below every number, and +∞ above
pub bottom : {y : Float} → Number y → inf true ≼ y
unfolding le is_nan
bottom {y} n = record { holds = go y n.holds }
  where
    go : (y : Float) → T (not (is_nan y)) → T (le (inf true) y)
    go nan n = n
    go (inf true) n = tt
    go (inf false) n = tt
    go (fin s m e) n = tt

pub top : {x : Float} → Number x → x ≼ inf false
unfolding le is_nan
top {x} n = record { holds = go x n.holds }
  where
    go : (x : Float) → T (not (is_nan x)) → T (le x (inf false))
    go nan n = n
    go (inf true) n = tt
    go (inf false) n = tt
    go (fin s m e) n = tt

-- ---- reflexive, transitive, total

pub le_refl : {x : Float} → Number x → x ≼ x
unfolding le is_nan
le_refl {x} n = record { holds = go x n.holds }
  where
    go : (x : Float) → T (not (is_nan x)) → T (le x x)
    go nan n = n
    go (inf true) n = tt
    go (inf false) n = tt
    go (fin s m e) n = sides→le (fin s m e) (fin s m e) tt tt (omega arith)

-- a / p ≤ b / q ≤ c / r, each a difference of two parts
chain : (a a' p b b' q c c' r : ℕ) → 0 < q → a * q + b' * p ≤ b * p + a' * q → b * r + c' * q ≤ c * q + b' * r → a * r + c' * p ≤ c * p + a' * r
chain a a' p b b' q c c' r Q h k =
    le_of_mul-le-mul_right {k = q} (omega (arith, mul-le-mul_right r h, mul-le-mul_right p k)) Q

le_trans_test : (x y z : Float) → T (le x y) → T (le y z) → T (le x z)
unfolding le
le_trans_test nan y z h k = absurd h
le_trans_test (inf s) nan z h k = absurd h
le_trans_test (fin s m e) nan z h k = absurd h
le_trans_test (inf true) (inf true) z h k = k
le_trans_test (inf true) (inf false) nan h k = k
le_trans_test (inf true) (inf false) (inf true) h k = tt
le_trans_test (inf true) (inf false) (inf false) h k = tt
le_trans_test (inf true) (inf false) (fin t n d) h k = tt
le_trans_test (inf true) (fin t n d) nan h k = k
le_trans_test (inf true) (fin t n d) (inf true) h k = tt
le_trans_test (inf true) (fin t n d) (inf false) h k = tt
le_trans_test (inf true) (fin t n d) (fin u o b) h k = tt
le_trans_test (inf false) (inf true) z h k = absurd h
le_trans_test (inf false) (inf false) z h k = k
le_trans_test (inf false) (fin t n d) z h k = absurd h
le_trans_test (fin s m e) (inf true) z h k = absurd h
le_trans_test (fin s m e) (inf false) nan h k = k
le_trans_test (fin s m e) (inf false) (inf true) h k = absurd k
le_trans_test (fin s m e) (inf false) (inf false) h k = tt
le_trans_test (fin s m e) (inf false) (fin u o b) h k = absurd k
le_trans_test (fin s m e) (fin t n d) nan h k = absurd k
le_trans_test (fin s m e) (fin t n d) (inf true) h k = absurd k
le_trans_test (fin s m e) (fin t n d) (inf false) h k = tt
le_trans_test (fin s m e) (fin t n d) (fin u o b) h k =
    let x = fin s m e in
    let y = fin t n d in
    let z = fin u o b in
    sides→le x z tt tt
    (chain (positive_part x) (negative_part x) (den x) (positive_part y) (negative_part y) (den y) (positive_part z) (negative_part z) (den z) (den_pos y) (le→sides x y tt tt h) (le→sides y z tt tt k))

pub le_trans : {x y z : Float} → x ≼ y → y ≼ z → x ≼ z
le_trans {x} {y} {z} h k = record { holds = le_trans_test x y z h.holds k.holds }

-- ---- `lt` against `le`

pub lt→le : {x y : Float} → x ≺ y → x ≼ y
unfolding le
lt→le {x} {y} h = record { holds = or_left (lt x y) (eq x y) h.holds }

lt_not_le : (x y : Float) → T (lt x y) → T (le y x) → ⊥
unfolding le
lt_not_le nan y h k = h
lt_not_le (inf s) nan h k = h
lt_not_le (fin s m e) nan h k = h
lt_not_le (inf true) (inf true) h k = h
lt_not_le (inf true) (inf false) h k = k
lt_not_le (inf false) (inf t) h k = h
lt_not_le (inf true) (fin t n d) h k = k
lt_not_le (inf false) (fin t n d) h k = h
lt_not_le (fin s m e) (inf true) h k = h
lt_not_le (fin s m e) (inf false) h k = k
lt_not_le (fin s m e) (fin t n d) h k =
    let l = lt→cross (fin s m e) (fin t n d) tt tt h in
    let r = le→sides (fin t n d) (fin s m e) tt tt k in
    omega (arith, l, r)

-- x < y excludes y ≤ x
pub lt_excludes : {x y : Float} → x ≺ y → y ≼ x → ⊥
lt_excludes {x} {y} h k = lt_not_le x y h.holds k.holds

not-le-lt : (x y : Float) → T (not (is_nan x)) → T (not (is_nan y)) → (T (le y x) → ⊥) → T (lt x y)
unfolding le is_nan
not-le-lt nan y m n h = m
not-le-lt (inf s) nan m n h = n
not-le-lt (fin s o e) nan m n h = n
not-le-lt (inf true) (inf true) m n h = h tt
not-le-lt (inf true) (inf false) m n h = tt
not-le-lt (inf false) (inf true) m n h = h tt
not-le-lt (inf false) (inf false) m n h = h tt
not-le-lt (inf true) (fin t p d) m n h = tt
not-le-lt (inf false) (fin t p d) m n h = h tt
not-le-lt (fin s o e) (inf true) m n h = h tt
not-le-lt (fin s o e) (inf false) m n h = tt
not-le-lt (fin s o e) (fin t p d) m n h =
    go (dec_le (left_side (fin t p d) (fin s o e)) (right_side (fin t p d) (fin s o e)))
  where
    go : Dec (left_side (fin t p d) (fin s o e) ≤ right_side (fin t p d) (fin s o e)) → T (lt (fin s o e) (fin t p d))
    go (yes k) = absurd (h (sides→le (fin t p d) (fin s o e) tt tt k))
    go (no k) = cross→lt (fin s o e) (fin t p d) tt tt (omega arith)

-- of two numbers, x < y is what y ≤ x is not
pub lt_is : {x y : Float} → Number x → Number y → lt x y ≡ not (le y x)
lt_is {x} {y} m n = go (lt x y) (le y x) (lt_not_le x y) (not-le-lt x y m.holds n.holds)
  where
    go : (a b : Bool) → (T a → T b → ⊥) → ((T b → ⊥) → T a) → a ≡ not b
    go true true f g = absurd (f tt tt)
    go true false f g = refl
    go false true f g = refl
    go false false f g = absurd (g (λ (e : ⊥). e))

-- where a comparison of two numbers fails, the order is the other way
pub le_of_not_lt : {x y : Float} → Number x → Number y → lt x y ≡ false → y ≼ x
le_of_not_lt {x} {y} m n e = record { holds = go (le y x) (sym (lt_is m n) ∙ e) }
  where
    go : (b : Bool) → not b ≡ false → T b
    go true h = tt
    go false h = true≢false h

pub lt_of_not_le : {x y : Float} → Number x → Number y → le y x ≡ false → x ≺ y
lt_of_not_le {x} {y} m n e = record { holds = rw (lt_is m n, e) tt }

pub le_lt_trans : {x y z : Float} → x ≼ y → y ≺ z → x ≺ z
le_lt_trans {x} {y} {z} h k = record {
  holds = not-le-lt x z (left_number h).holds (right_number (lt→le k)).holds (λ l. lt_not_le y z k.holds (le_trans_test z x y l h.holds));
}

pub lt-le_trans : {x y z : Float} → x ≺ y → y ≼ z → x ≺ z
lt-le_trans {x} {y} {z} h k = record {
  holds = not-le-lt x z (left_number (lt→le h)).holds (right_number k).holds (λ l. lt_not_le x y h.holds (le_trans_test y z x k.holds l));
}

-- what an order refutes
pub not_below : {x y : Float} → y ≼ x → lt x y ≡ false
not_below {x} {y} h = is_false (lt x y) (not_T (lt x y) (λ (t : T (lt x y)). lt_excludes (record { holds = t }) h))

pub not_up_to : {x y : Float} → y ≺ x → le x y ≡ false
not_up_to {x} {y} h = is_false (le x y) (not_T (le x y) (λ (t : T (le x y)). lt_excludes h (record { holds = t })))

-- ---- negation turns the order round

pub neg_finite : {x : Float} → Finite x → Finite (neg x)
unfolding neg
neg_finite {x} f = record { holds = go x f.holds }
  where
    go : (x : Float) → T (finite x) → T (finite (neg x))
    go nan f = f
    go (inf s) f = f
    go (fin s m e) f = tt

pub neg-neg : (x : Float) → neg (neg x) ≡ x
unfolding neg
neg-neg nan = refl
neg-neg (inf true) = refl
neg-neg (inf false) = refl
neg-neg (fin true m e) = refl
neg-neg (fin false m e) = refl

neg_turns : (x y : Float) → T (le x y) → T (le (neg y) (neg x))
unfolding le neg
neg_turns nan y h = absurd h
neg_turns (inf s) nan h = absurd h
neg_turns (fin s m e) nan h = absurd h
neg_turns (inf true) (inf true) h = tt
neg_turns (inf true) (inf false) h = tt
neg_turns (inf false) (inf true) h = h
neg_turns (inf false) (inf false) h = tt
neg_turns (inf true) (fin t n d) h = tt
neg_turns (inf false) (fin t n d) h = h
neg_turns (fin s m e) (inf true) h = h
neg_turns (fin s m e) (inf false) h = tt
neg_turns (fin true m e) (fin true n d) h = sides→le (fin false n d) (fin false m e) tt tt (omega (arith, le→sides (fin true m e) (fin true n d) tt tt h))
neg_turns (fin true m e) (fin false n d) h = sides→le (fin true n d) (fin false m e) tt tt (omega arith)
neg_turns (fin false m e) (fin true n d) h = sides→le (fin false n d) (fin true m e) tt tt (omega (arith, le→sides (fin false m e) (fin true n d) tt tt h))
neg_turns (fin false m e) (fin false n d) h = sides→le (fin true n d) (fin true m e) tt tt (omega (arith, le→sides (fin false m e) (fin false n d) tt tt h))

pub neg-le : {x y : Float} → x ≼ y → neg y ≼ neg x
neg-le {x} {y} h = record { holds = neg_turns x y h.holds }

pub neg-number : {x : Float} → Number x → Number (neg x)
neg-number n = left_number (neg-le (le_refl n))

pub neg-lt : {x y : Float} → x ≺ y → neg y ≺ neg x
neg-lt {x} {y} h =
    let l = neg-le (lt→le h) in
    lt_of_not_le (left_number l) (right_number l)
    (is_false (le (neg x) (neg y)) (not_T (le (neg x) (neg y)) (λ t. lt_excludes h (rw (neg-neg x, neg-neg y) at (neg-le {x = neg x} {y = neg y} (record { holds = t }))))))

-- ---- only a NaN differs from itself

pub equals_itself : (x : Float) → eq x x ≡ not (is_nan x)
unfolding eq is_nan
equals_itself nan = refl
equals_itself (inf true) = refl
equals_itself (inf false) = refl
equals_itself (fin true m e) = go (eqb (m * up e * down e) (m * up e * down e)) (eqb_refl (m * up e * down e))
  where
    go : (b : Bool) → T b → b && true ≡ true
    go true t = refl
    go false t = absurd t
equals_itself (fin false m e) = go (eqb (m * up e * down e) (m * up e * down e)) (eqb_refl (m * up e * down e))
  where
    go : (b : Bool) → T b → b && true ≡ true
    go true t = refl
    go false t = absurd t
