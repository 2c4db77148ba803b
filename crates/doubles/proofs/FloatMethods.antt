-- The float methods `min` and `max`, as their code finds them: by one comparison or a test of the second for a NaN. Assumes nothing.
use Rattle.std.proofs.Common.{◌≡◌, Bool, true, false, cond, ◌||◌, T, refl}
use lib.Ieee.{Float, nan, inf, fin, lt, is_nan}
use Rattle.doubles.specs.Functions.{float_min, float_max}

no_nan_left : (x y : Float) → T (is_nan x) → T (lt x y) → ⊥
unfolding is_nan lt
no_nan_left nan y n h = h
no_nan_left (inf s) y n h = n
no_nan_left (fin s m e) y n h = n

no_nan_right : (x y : Float) → T (is_nan y) → T (lt x y) → ⊥
unfolding is_nan lt
no_nan_right nan y n h = h
no_nan_right (inf s) nan n h = h
no_nan_right (inf s) (inf t) n h = n
no_nan_right (inf s) (fin t m e) n h = n
no_nan_right (fin s m e) nan n h = h
no_nan_right (fin s m e) (inf t) n h = n
no_nan_right (fin s m e) (fin t k d) n h = n

same_nan : (x y : Float) → T (is_nan x) → T (is_nan y) → x ≡ y
unfolding is_nan
same_nan nan nan m n = refl
same_nan nan (inf t) m n = absurd n
same_nan nan (fin t k d) m n = absurd n
same_nan (inf s) y m n = absurd m
same_nan (fin s k d) y m n = absurd m

-- p and q: whether x and y are NaN; t: the comparison
shape : (x y : Float) (p q t : Bool) → (T p → T t → ⊥) → (T p → T q → y ≡ x)
    → cond p y (cond q x (cond t x y)) ≡ cond (t || q) x y
shape x y true q true f g = absurd (f tt tt)
shape x y true true false f g = g tt tt
shape x y true false false f g = refl
shape x y false true true f g = refl
shape x y false true false f g = refl
shape x y false false true f g = refl
shape x y false false false f g = refl

pub min_shape : (x y : Float) → float_min x y ≡ cond (lt x y || is_nan y) x y
unfolding float_min
min_shape x y = shape x y (is_nan x) (is_nan y) (lt x y) (no_nan_left x y) (λ m n. same_nan y x n m)

pub max_shape : (x y : Float) → float_max x y ≡ cond (lt y x || is_nan y) x y
unfolding float_max
max_shape x y = shape x y (is_nan x) (is_nan y) (lt y x) (no_nan_right y x) (λ m n. same_nan y x n m)
