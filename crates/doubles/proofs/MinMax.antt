-- The smaller and the larger of two: bounds, order, and the float methods `min` and `max` of numbers. Assumes nothing.
use Rattle.std.proofs.Common.{◌≡◌, Bool, true, false, cond, not, T, refl}
use lib.Ieee.{Float, lt, is_nan}
use Rattle.doubles.specs.Functions.{min_of2, max_of2, float_min, float_max}
use Rattle.doubles.specs.Order.{◌≼◌, Number, Fits}
use Rattle.doubles.proofs.Order.{le_trans, left_number, right_number}
use Rattle.doubles.proofs.Folds.{min_left, min_right, max_left, max_right}

pub min_greatest : {w x y : Float} → w ≼ x → w ≼ y → w ≼ min_of2 x y
unfolding min_of2
min_greatest {w} {x} {y} h k = go (lt x y)
  where
    go : (b : Bool) → w ≼ cond b x y
    go true = h
    go false = k

pub max_least : {w x y : Float} → x ≼ w → y ≼ w → max_of2 x y ≼ w
unfolding max_of2
max_least {w} {x} {y} h k = go (lt y x)
  where
    go : (b : Bool) → cond b x y ≼ w
    go true = h
    go false = k

pub min_mono : {x x' y y' : Float} → x ≼ x' → y ≼ y' → min_of2 x y ≼ min_of2 x' y'
min_mono h k =
    min_greatest (le_trans (min_left (left_number h) (left_number k)) h) (le_trans (min_right (left_number h) (left_number k)) k)

pub max_mono : {x x' y y' : Float} → x ≼ x' → y ≼ y' → max_of2 x y ≼ max_of2 x' y'
max_mono h k =
    max_least (le_trans h (max_left (right_number h) (right_number k))) (le_trans k (max_right (right_number h) (right_number k)))

-- of numbers the float methods are the plain ones
pub float_min_is : {x y : Float} → Number x → Number y → float_min x y ≡ min_of2 x y
unfolding float_min
float_min_is {x} {y} m n = go (is_nan x) (is_nan y) m.holds n.holds
  where
    go : (p q : Bool) → T (not p) → T (not q) → cond p y (cond q x (min_of2 x y)) ≡ min_of2 x y
    go true q m n = absurd m
    go false true m n = absurd n
    go false false m n = refl

pub float_max_is : {x y : Float} → Number x → Number y → float_max x y ≡ max_of2 x y
unfolding float_max
float_max_is {x} {y} m n = go (is_nan x) (is_nan y) m.holds n.holds
  where
    go : (p q : Bool) → T (not p) → T (not q) → cond p y (cond q x (max_of2 x y)) ≡ max_of2 x y
    go true q m n = absurd m
    go false true m n = absurd n
    go false false m n = refl

-- a choice of two doubles is one
pub either_fits : (b : Bool) {x y : Float} → Fits x → Fits y → Fits (cond b x y)
either_fits true f g = f
either_fits false f g = g

pub float_min_fits : {x y : Float} → Fits x → Fits y → Fits (float_min x y)
unfolding float_min min_of2
float_min_fits {x} {y} f g = either_fits (is_nan x) g (either_fits (is_nan y) f (either_fits (lt x y) f g))
