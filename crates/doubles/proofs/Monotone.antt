-- The operations keep the order, over all signs, zeros and infinities, wherever no NaN arises: a sum grows with both summands,
-- a difference grows with its first operand and falls as the second grows, a product of doubles that are not negative grows with
-- both factors, and a quotient by a divisor above zero grows with its dividend. Assumes nothing.
use Rattle.std.proofs.Common.{◌≡◌, ℕ, ◌+◌, ◌*◌, ◌<◌, ◌≤◌, Bool, true, false, cond, not, T, eqb, ℤ, refl, ◌∙◌, mul-le-mul_right, mul_comm, mul-le-mul, mul-pos, arith, ltb→lt, lt→ltb}
use native.Mathlib.Nat.{mul-mul-mul_comm}
use lib.Ieee.{Float, nan, inf, fin, up, down, add, sub, mul, div, neg, lt, le, is_nan}
use lib.Ieee.Fits.{up_pos}
use lib.Ieee.Positive.{den, den_pos, positive, first_pos}
use lib.Ieee.Scale.{finite}
use Rattle.doubles.specs.Arithmetic.{◌⊕◌, ◌⊖◌, ◌⊗◌, ◌⊘◌, whole}
use Rattle.doubles.specs.Order.{◌≼◌, ◌≺◌, Number}
use Rattle.doubles.proofs.Order.{eq→eqb, positive_part, negative_part, left_side, right_side, le→cross, le_refl, le_trans, bottom, top, neg-le, right_number}
use Rattle.doubles.proofs.Rounding.{first_zero, rounded_mono, add_rounds, mul_rounds, product_comm, div_rounds}

-- a finite double, as the laws below name its parts
module _ (x y : Float) (f : T (finite x)) (g : T (finite y)) where
  sides : x ≼ y → left_side x y ≤ right_side x y
  sides h = le→cross (record { holds = f }) (record { holds = g }) h

-- ---- sums

spread : (a b c d k : ℕ) → a + b ≤ c + d → a * k + b * k ≤ c * k + d * k
spread a b c d k h = omega (arith, mul-le-mul_right k h)

regroup : (p q d e d' e' : ℕ) → (p * e + q * d) * (d' * e') ≡ p * d' * (e * e') + q * e' * (d * d')
regroup p q d e d' e' = omega arith

add_sides : (p n d p' n' d' q m e q' m' e' : ℕ) → p * d' + n' * d ≤ p' * d + n * d' → q * e' + m' * e ≤ q' * e + m * e'
    → (p * e + q * d) * (d' * e') + (n' * e' + m' * d') * (d * e) ≤ (p' * e' + q' * d') * (d * e) + (n * e + m * d) * (d' * e')
add_sides p n d p' n' d' q m e q' m' e' h k =
    rw (regroup p q d e d' e', regroup n' m' d' e' d e, regroup p' q' d' e' d e, regroup n m d e d' e', mul_comm e' e, mul_comm d' d)
    (four _ _ _ _ _ _ _ _ (spread (p * d') (n' * d) (p' * d) (n * d') (e * e') h) (spread (q * e') (m' * e) (q' * e) (m * e') (d * d') k))
  where
    four : (a b c d x y z w : ℕ) → a + b ≤ c + d → x + y ≤ z + w → a + x + (b + y) ≤ c + z + (d + w)
    four a b c d x y z w h k = omega arith

add_finite : (x x' y y' : Float) → T (finite x) → T (finite x') → T (finite y) → T (finite y') → x ≼ x' → y ≼ y' → x ⊕ y ≼ x' ⊕ y'
add_finite x x' y y' f f' g g' h k =
    rounded_mono (x ⊕ y) (x' ⊕ y')
    (positive_part x * den y + positive_part y * den x) (negative_part x * den y + negative_part y * den x) (den x * den y)
    (positive_part x' * den y' + positive_part y' * den x') (negative_part x' * den y' + negative_part y' * den x') (den x' * den y')
    (mul-pos (den_pos x) (den_pos y)) (mul-pos (den_pos x') (den_pos y'))
    (add_rounds x y f g) (add_rounds x' y' f' g')
    (add_sides (positive_part x) (negative_part x) (den x) (positive_part x') (negative_part x') (den x')
    (positive_part y) (negative_part y) (den y) (positive_part y') (negative_part y') (den y')
    (sides x x' f f' h) (sides y y' g g' k))

add_all : (x x' y y' : Float) → x ≼ x' → y ≼ y' → Number (x ⊕ y) → Number (x' ⊕ y') → x ⊕ y ≼ x' ⊕ y'
unfolding add le is_nan
add_all nan x' y y' h k n m = absurd h.holds
add_all (inf true) x' nan y' h k n m = absurd k.holds
add_all (inf true) x' (inf true) y' h k n m = bottom m
add_all (inf true) x' (inf false) y' h k n m = absurd n.holds
add_all (inf true) x' (fin t p d) y' h k n m = bottom m
add_all (inf false) nan y y' h k n m = absurd h.holds
add_all (inf false) (inf true) y y' h k n m = absurd h.holds
add_all (inf false) (fin t p d) y y' h k n m = absurd h.holds
add_all (inf false) (inf false) y nan h k n m = absurd m.holds
add_all (inf false) (inf false) y (inf true) h k n m = absurd m.holds
add_all (inf false) (inf false) y (inf false) h k n m = top n
add_all (inf false) (inf false) y (fin t p d) h k n m = top n
add_all (fin s o e) nan y y' h k n m = absurd h.holds
add_all (fin s o e) (inf true) y y' h k n m = absurd h.holds
add_all (fin s o e) (inf false) y nan h k n m = absurd m.holds
add_all (fin s o e) (inf false) y (inf true) h k n m = absurd m.holds
add_all (fin s o e) (inf false) y (inf false) h k n m = top n
add_all (fin s o e) (inf false) y (fin t p d) h k n m = top n
add_all (fin s o e) (fin t p d) nan y' h k n m = absurd k.holds
add_all (fin s o e) (fin t p d) (inf true) y' h k n m = bottom m
add_all (fin s o e) (fin t p d) (inf false) nan h k n m = absurd k.holds
add_all (fin s o e) (fin t p d) (inf false) (inf true) h k n m = absurd k.holds
add_all (fin s o e) (fin t p d) (inf false) (inf false) h k n m = top n
add_all (fin s o e) (fin t p d) (inf false) (fin u q b) h k n m = absurd k.holds
add_all (fin s o e) (fin t p d) (fin u q b) nan h k n m = absurd k.holds
add_all (fin s o e) (fin t p d) (fin u q b) (inf true) h k n m = absurd k.holds
add_all (fin s o e) (fin t p d) (fin u q b) (inf false) h k n m = top n
add_all (fin s o e) (fin t p d) (fin u q b) (fin v r c) h k n m = add_finite (fin s o e) (fin t p d) (fin u q b) (fin v r c) tt tt tt tt h k

pub add_mono : {x x' y y' : Float} → x ≼ x' → y ≼ y' → Number (x ⊕ y) → Number (x' ⊕ y') → x ⊕ y ≼ x' ⊕ y'
add_mono {x} {x'} {y} {y'} h k n m = add_all x x' y y' h k n m

pub sub_mono : {x x' y y' : Float} → x ≼ x' → y' ≼ y → Number (x ⊖ y) → Number (x' ⊖ y') → x ⊖ y ≼ x' ⊖ y'
unfolding sub
sub_mono {x} {x'} {y} {y'} h k n m = add_all x x' (neg y) (neg y') h (neg-le {x = y'} {y = y} k) n m

-- ---- products of doubles that are not negative

pub no_negative_part : (x : Float) → T (finite x) → whole 0 ≼ x → negative_part x ≡ 0
unfolding whole
no_negative_part nan f h = absurd f
no_negative_part (inf s) f h = absurd f
no_negative_part (fin false m e) f h = refl
no_negative_part (fin true m e) f h = omega (arith, sides (whole 0) (fin true m e) tt tt h)

mul_sides : (p d p' d' q e q' e' : ℕ) → p * d' ≤ p' * d → q * e' ≤ q' * e → p * q * (d' * e') ≤ p' * q' * (d * e)
mul_sides p d p' d' q e q' e' h k = rw (mul-mul-mul_comm p q d' e', mul-mul-mul_comm p' q' d e) (mul-le-mul h k)

mul_finite : (x x' y y' : Float) → T (finite x) → T (finite x') → T (finite y) → T (finite y')
    → whole 0 ≼ x → whole 0 ≼ y → x ≼ x' → y ≼ y' → x ⊗ y ≼ x' ⊗ y'
mul_finite x x' y y' f f' g g' i j h k =
    let nx = no_negative_part x f i in
    let nx' = no_negative_part x' f' (le_trans i h) in
    let ny = no_negative_part y g j in
    let ny' = no_negative_part y' g' (le_trans j k) in
    let hx : positive_part x * den x' ≤ positive_part x' * den x = omega (arith, rw (nx, nx') at (sides x x' f f' h)) in
    let hy : positive_part y * den y' ≤ positive_part y' * den y = omega (arith, rw (ny, ny') at (sides y y' g g' k)) in
    rounded_mono (x ⊗ y) (x' ⊗ y')
    (positive_part x * positive_part y + negative_part x * negative_part y) (positive_part x * negative_part y + negative_part x * positive_part y) (den x * den y)
    (positive_part x' * positive_part y' + negative_part x' * negative_part y') (positive_part x' * negative_part y' + negative_part x' * positive_part y') (den x' * den y')
    (mul-pos (den_pos x) (den_pos y)) (mul-pos (den_pos x') (den_pos y'))
    (mul_rounds x y f g) (mul_rounds x' y' f' g')
    (rw (nx, nx', ny, ny')
    (alone (positive_part x) (positive_part y) (den x * den y) (positive_part x') (positive_part y') (den x' * den y')
    (mul_sides (positive_part x) (den x) (positive_part x') (den x') (positive_part y) (den y) (positive_part y') (den y') hx hy)))
  where
    alone : (p q c p' q' c' : ℕ) → p * q * c' ≤ p' * q' * c
        → (p * q + 0 * 0) * c' + (p' * 0 + 0 * q') * c ≤ (p' * q' + 0 * 0) * c + (p * 0 + 0 * q) * c'
    alone p q c p' q' c' h = omega arith

-- +∞ times what is not negative is +∞, or a NaN at a zero
inf-times : (y : Float) → whole 0 ≼ y → Number (inf false ⊗ y) → inf false ⊗ y ≡ inf false
unfolding mul whole le is_nan
inf-times nan h n = absurd h.holds
inf-times (inf true) h n = absurd h.holds
inf-times (inf false) h n = refl
inf-times (fin false m e) h n = go (eqb m 0) n.holds
  where
    go : (b : Bool) → T (not (is_nan (cond b nan (inf false)))) → cond b nan (inf false) ≡ inf false
    go true t = absurd t
    go false t = refl
inf-times (fin true m e) h n = go (eqb m 0) (eq→eqb m 0 (first_zero m (up e) (up_pos e) (no_negative_part (fin true m e) tt h))) n.holds
  where
    go : (b : Bool) → T b → T (not (is_nan (cond b nan (inf true)))) → cond b nan (inf true) ≡ inf false
    go true s t = absurd t
    go false s t = absurd s

times-inf : (x : Float) → whole 0 ≼ x → Number (x ⊗ inf false) → x ⊗ inf false ≡ inf false
times-inf x h n = product_comm x (inf false) ∙ inf-times x h (rw (← product_comm x (inf false)) n)

mul_all : (x x' y y' : Float) → whole 0 ≼ x → whole 0 ≼ y → x ≼ x' → y ≼ y' → Number (x ⊗ y) → Number (x' ⊗ y') → x ⊗ y ≼ x' ⊗ y'
unfolding le whole is_nan
mul_all x nan y y' i j h k n m = absurd (right_number h).holds
mul_all x (inf true) y y' i j h k n m = absurd (le_trans i h).holds
mul_all x (inf false) y y' i j h k n m = rw (inf-times y' (le_trans j k) m) (top n)
mul_all x (fin t p d) y nan i j h k n m = absurd (right_number k).holds
mul_all x (fin t p d) y (inf true) i j h k n m = absurd (le_trans j k).holds
mul_all x (fin t p d) y (inf false) i j h k n m = rw (times-inf (fin t p d) (le_trans i h) m) (top n)
mul_all nan (fin t p d) y (fin v r c) i j h k n m = absurd h.holds
mul_all (inf true) (fin t p d) y (fin v r c) i j h k n m = absurd i.holds
mul_all (inf false) (fin t p d) y (fin v r c) i j h k n m = absurd h.holds
mul_all (fin s o e) (fin t p d) nan (fin v r c) i j h k n m = absurd k.holds
mul_all (fin s o e) (fin t p d) (inf true) (fin v r c) i j h k n m = absurd j.holds
mul_all (fin s o e) (fin t p d) (inf false) (fin v r c) i j h k n m = absurd k.holds
mul_all (fin s o e) (fin t p d) (fin u q b) (fin v r c) i j h k n m =
    mul_finite (fin s o e) (fin t p d) (fin u q b) (fin v r c) tt tt tt tt i j h k

pub mul_mono : {x x' y y' : Float} → whole 0 ≼ x → whole 0 ≼ y → x ≼ x' → y ≼ y' → Number (x ⊗ y) → Number (x' ⊗ y') → x ⊗ y ≼ x' ⊗ y'
mul_mono {x} {x'} {y} {y'} i j h k n m = mul_all x x' y y' i j h k n m

-- ---- quotients by a divisor above zero

div_sides : (p n d p' n' d' q e : ℕ) → p * d' + n' * d ≤ p' * d + n * d'
    → p * e * (q * d') + n' * e * (q * d) ≤ p' * e * (q * d) + n * e * (q * d')
div_sides p n d p' n' d' q e h = omega (arith, spread (p * d') (n' * d) (p' * d) (n * d') (e * q) h)

pub positive_part_lem : (y : Float) → T (positive y) → 0 < positive_part y
positive_part_lem nan g = absurd g
positive_part_lem (inf s) g = absurd g
positive_part_lem (fin true m e) g = absurd g
positive_part_lem (fin false m e) g = mul-pos (ltb→lt 0 m g) (up_pos e)

div_finite : (x x' y : Float) → T (finite x) → T (finite x') → T (positive y) → x ≼ x' → x ⊘ y ≼ x' ⊘ y
div_finite x x' y f f' g h =
    rounded_mono (x ⊘ y) (x' ⊘ y)
    (positive_part x * den y) (negative_part x * den y) (positive_part y * den x)
    (positive_part x' * den y) (negative_part x' * den y) (positive_part y * den x')
    (mul-pos (positive_part_lem y g) (den_pos x)) (mul-pos (positive_part_lem y g) (den_pos x'))
    (div_rounds x y f g) (div_rounds x' y f' g)
    (div_sides (positive_part x) (negative_part x) (den x) (positive_part x') (negative_part x') (den x') (positive_part y) (den y) (sides x x' f f' h))

pub positive_of : (s : Bool) (m : ℕ) (e : ℤ) → T (lt (whole 0) (fin s m e)) → T (positive (fin s m e))
unfolding lt whole
positive_of false m e h = lt→ltb 0 m (first_pos m (up e) (omega (arith, ltb→lt (0 * 1 * down e) (m * up e * 1) h)))
positive_of true m e h = h

-- ±∞ over what is finite and above zero
inf_over : (t : Bool) (y : Float) → T (positive y) → inf t ⊘ y ≡ inf t
unfolding div
inf_over t nan g = absurd g
inf_over t (inf s) g = absurd g
inf_over t (fin true m e) g = absurd g
inf_over true (fin false m e) g = refl
inf_over false (fin false m e) g = refl

div_all : (x x' y : Float) → whole 0 ≺ y → x ≼ x' → Number (x ⊘ y) → Number (x' ⊘ y) → x ⊘ y ≼ x' ⊘ y
unfolding div le is_nan whole
div_all x x' nan p h n m = absurd p.holds
div_all x x' (inf true) p h n m = absurd p.holds
div_all nan x' (inf false) p h n m = absurd h.holds
div_all (inf s) x' (inf false) p h n m = absurd n.holds
div_all (fin s o e) nan (inf false) p h n m = absurd h.holds
div_all (fin s o e) (inf t) (inf false) p h n m = absurd m.holds
div_all (fin true o e) (fin true q d) (inf false) p h n m = record { holds = tt }
div_all (fin true o e) (fin false q d) (inf false) p h n m = record { holds = tt }
div_all (fin false o e) (fin true q d) (inf false) p h n m = record { holds = tt }
div_all (fin false o e) (fin false q d) (inf false) p h n m = record { holds = tt }
div_all nan x' (fin u r c) p h n m = absurd h.holds
div_all (inf true) x' (fin u r c) p h n m = rw (inf_over true (fin u r c) (positive_of u r c p.holds)) (bottom m)
div_all (inf false) nan (fin u r c) p h n m = absurd h.holds
div_all (inf false) (inf true) (fin u r c) p h n m = absurd h.holds
div_all (inf false) (inf false) (fin u r c) p h n m = le_refl n
div_all (inf false) (fin t q d) (fin u r c) p h n m = absurd h.holds
div_all (fin s o e) nan (fin u r c) p h n m = absurd h.holds
div_all (fin s o e) (inf true) (fin u r c) p h n m = absurd h.holds
div_all (fin s o e) (inf false) (fin u r c) p h n m = rw (inf_over false (fin u r c) (positive_of u r c p.holds)) (top n)
div_all (fin s o e) (fin t q d) (fin u r c) p h n m = div_finite (fin s o e) (fin t q d) (fin u r c) tt tt (positive_of u r c p.holds) h

pub div_mono : {x x' y : Float} → whole 0 ≺ y → x ≼ x' → Number (x ⊘ y) → Number (x' ⊘ y) → x ⊘ y ≼ x' ⊘ y
div_mono {x} {x'} {y} p h n m = div_all x x' y p h n m
