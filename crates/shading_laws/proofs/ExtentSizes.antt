-- How an object's extent moves with its measures. Assumes nothing.
use mathlib.Core.Path.{◌≡◌, refl, subst}
use mathlib.Core.Logic.{◌⊎◌, inl, inr}
use mathlib.Core.Bool.{Bool, true, false}
use lib.Ieee.{Float, sub, is_nan}
use Rattle.std.specs.Prelude.{Option, Some, None}
use Rattle.doubles.specs.Arithmetic.{◌⊕◌, ◌⊖◌, ◌⊗◌, ◌⊘◌, whole}
use Rattle.doubles.specs.Functions.{max_of2, float_max}
use Rattle.doubles.specs.Order.{◌≼◌, ◌≺◌, Number}
use Rattle.doubles.proofs.Order.{le_refl}
use Rattle.doubles.proofs.Monotone.{add_mono, sub_mono, div_mono}
use Rattle.doubles.proofs.Bounds.{zero_number, add_operands, sub_operands, div_operands, mul_nonneg, cut_operand}
use Rattle.doubles.proofs.Folds.{max_left}
use Rattle.doubles.proofs.Intervals.{mul_keeps, mul_either, div_either}
use Rattle.doubles.proofs.MinMax.{max_mono, float_max_is}
use Rattle.extents.specs.Extents.{obstacle_height, overhang_height, window_overhang_height}
use Rattle.fins.specs.Fins.{fin_width}
use Rattle.objects.specs.declared.window.WindowShadingObject.{WindowShadingObject}
use Rattle.shading.specs.declared.sun_on_surface.SunOnSurface.{SunOnSurface}
use Rattle.shading_laws.specs.Sizes.{NotNegative, TangentUp}

-- the same number, taken as no larger
pub level : {x y : Float} → Number x → x ≡ y → x ≼ y
level {x} n e = subst (λ (z : Float). x ≼ z) e (le_refl n)

-- ---- obstacles, distant and near

module _ (base tan_altitude height height' distance distance' : Float)
    (n : Number (obstacle_height base height distance tan_altitude)) (m : Number (obstacle_height base height' distance' tan_altitude)) where
  before : Number (height ⊖ base ⊖ distance ⊗ tan_altitude)
  unfolding obstacle_height
  before = cut_operand (whole 0) (height ⊖ base ⊖ distance ⊗ tan_altitude) n

  after : Number (height' ⊖ base ⊖ distance' ⊗ tan_altitude)
  unfolding obstacle_height
  after = cut_operand (whole 0) (height' ⊖ base ⊖ distance' ⊗ tan_altitude) m

  rises : height ≼ height' → distance' ⊗ tan_altitude ≼ distance ⊗ tan_altitude → obstacle_height base height distance tan_altitude ≼ obstacle_height base height' distance' tan_altitude
  unfolding obstacle_height max_of2
  rises h k =
      let p = sub_operands before in
      max_mono (le_refl zero_number) (sub_mono (sub_mono h (le_refl (sub_operands p.0).1) p.0 (sub_operands after).0) k before after)

  pub taller : distance ≡ distance' → height ≼ height' → obstacle_height base height distance tan_altitude ≼ obstacle_height base height' distance' tan_altitude
  taller e h = rises h (subst (λ (d : Float). d ⊗ tan_altitude ≼ distance ⊗ tan_altitude) e (le_refl (sub_operands before).1))

  pub nearer : whole 0 ≼ tan_altitude → height ≡ height' → distance' ≼ distance → obstacle_height base height distance tan_altitude ≼ obstacle_height base height' distance' tan_altitude
  nearer up e h = rises (level (sub_operands (sub_operands before).0).0 e) (mul_keeps up h (sub_operands after).1 (sub_operands before).1)

-- ---- distant overhangs

max_nan : (x : Float) → is_nan x ≡ true → float_max (whole 0) x ≡ whole 0
unfolding float_max whole is_nan
max_nan x e = rw e refl

-- a NaN is cut off to 0 too, so that only the second has to be a number
max_rises : {x y : Float} → Number y → (Number x → x ≼ y) → float_max (whole 0) x ≼ float_max (whole 0) y
max_rises {x} {y} m f = rw (float_max_is zero_number m) (go (is_nan x) refl)
  where
    go : (b : Bool) → is_nan x ≡ b → float_max (whole 0) x ≼ max_of2 (whole 0) y
    go true e = rw (max_nan x e) (max_left zero_number m)
    go false e =
        let n : Number x = record { holds = rw e tt } in
        rw (float_max_is zero_number n) (max_mono (le_refl zero_number) (f n))

module _ (surface base tan_altitude height height' distance distance' : Float) (m : Number (surface ⊕ base ⊖ height' ⊕ distance' ⊗ tan_altitude)) where
  pub lower : distance ≡ distance' → height' ≼ height → overhang_height surface base height distance tan_altitude ≼ overhang_height surface base height' distance' tan_altitude
  unfolding overhang_height
  lower e h =
      max_rises m (λ n.
      add_mono (sub_mono (le_refl (sub_operands (add_operands n).0).0) h (add_operands n).0 (add_operands m).0)
      (subst (λ (d : Float). distance ⊗ tan_altitude ≼ d ⊗ tan_altitude) e (le_refl (add_operands n).1)) n m)

  pub farther : whole 0 ≼ tan_altitude → height ≡ height' → distance ≼ distance' → overhang_height surface base height distance tan_altitude ≼ overhang_height surface base height' distance' tan_altitude
  unfolding overhang_height
  farther up e h =
      max_rises m (λ n.
      add_mono (subst (λ (z : Float). surface ⊕ base ⊖ height ≼ surface ⊕ base ⊖ z) e (le_refl (add_operands n).0))
      (mul_keeps up h (add_operands n).1 (add_operands m).1) n m)

-- ---- overhangs at the window and fins: what is not above 0 counts as nothing

zero_less_zero : whole 0 ⊖ whole 0 ≡ whole 0
unfolding whole sub
zero_less_zero = refl

less_distance : {x distance : Float} → x ≼ whole 0 → whole 0 ≼ distance → Number (x ⊖ distance) → x ⊖ distance ≼ whole 0
less_distance h k n = rw zero_less_zero at (sub_mono h k n (rw zero_less_zero zero_number))

-- a shade less a distance that stays the same, where the shade grows
same_distance : {x x' distance distance' : Float} → Number (x ⊖ distance) → Number (x' ⊖ distance') → distance ≡ distance' → x ≼ x' → x ⊖ distance ≼ x' ⊖ distance'
same_distance {x} {x'} {distance} n m e h = sub_mono h (subst (λ (d : Float). d ≼ distance) e (le_refl (sub_operands n).1)) n m

-- where it grows or is not above 0
either_distance : {x x' distance distance' : Float} → Number (x ⊖ distance) → Number (x' ⊖ distance') → distance ≡ distance' → whole 0 ≼ distance
    → (x ≼ whole 0) ⊎ (x ≼ x') → (x ⊖ distance ≼ whole 0) ⊎ (x ⊖ distance ≼ x' ⊖ distance')
either_distance n m e z (inl h) = inl (less_distance h z n)
either_distance n m e z (inr h) = inr (same_distance n m e h)

-- an overhang at the window
abbrev pub overhang_at : SunOnSurface → WindowShadingObject → Float
overhang_at sun o = window_overhang_height o.size o.distance sun.tan_altitude sun.cos_difference

module _ (sun : SunOnSurface) (o p : WindowShadingObject) (n : Number (overhang_at sun o)) (m : Number (overhang_at sun p)) where
  pub window_overhang_nearer : o.size ≡ p.size → p.distance ≼ o.distance → overhang_at sun o ≼ overhang_at sun p
  unfolding window_overhang_height
  window_overhang_nearer e h =
      sub_mono (subst (λ (d : Float). o.size ⊗ sun.tan_altitude ⊘ sun.cos_difference ≼ d ⊗ sun.tan_altitude ⊘ sun.cos_difference) e (le_refl (sub_operands n).0)) h n m

  module _ (up : whole 0 ≼ sun.tan_altitude) (e : o.distance ≡ p.distance) (h : o.size ≼ p.size) where
    product_keeps : o.size ⊗ sun.tan_altitude ≼ p.size ⊗ sun.tan_altitude
    unfolding window_overhang_height
    product_keeps = mul_keeps up h (div_operands (sub_operands n).0).0 (div_operands (sub_operands m).0).0

    -- with the sun in front, or of measures that are not negative
    pub window_overhang_deeper : (whole 0 ≺ sun.cos_difference) ⊎ NotNegative o → (overhang_at sun o ≼ whole 0) ⊎ (overhang_at sun o ≼ overhang_at sun p)
    unfolding window_overhang_height
    window_overhang_deeper (inl c) = inr (same_distance n m e (div_mono c product_keeps (sub_operands n).0 (sub_operands m).0))
    window_overhang_deeper (inr z) =
        either_distance n m e z.distance_from
        (div_either sun.cos_difference (mul_nonneg z.size_from up (div_operands (sub_operands n).0).0) product_keeps (sub_operands n).0 (sub_operands m).0)

-- ---- fins

pub fin_nearer : (fin : Option Float) (o p : WindowShadingObject) → Number (fin_width fin o.size o.distance) → Number (fin_width fin p.size p.distance)
    → o.size ≡ p.size → p.distance ≼ o.distance → fin_width fin o.size o.distance ≼ fin_width fin p.size p.distance
unfolding fin_width
fin_nearer (Some t) o p n m e h = sub_mono (subst (λ (d : Float). o.size ⊗ t ≼ d ⊗ t) e (le_refl (sub_operands n).0)) h n m
fin_nearer None o p n m e h = le_refl zero_number

pub fin_deeper : (fin : Option Float) (o p : WindowShadingObject) → TangentUp fin ⊎ NotNegative o
    → Number (fin_width fin o.size o.distance) → Number (fin_width fin p.size p.distance) → o.distance ≡ p.distance → o.size ≼ p.size
    → (fin_width fin o.size o.distance ≼ whole 0) ⊎ (fin_width fin o.size o.distance ≼ fin_width fin p.size p.distance)
unfolding fin_width TangentUp
fin_deeper None o p asked n m e h = inl (le_refl zero_number)
fin_deeper (Some t) o p (inl up) n m e h = inr (same_distance n m e (mul_keeps up h (sub_operands n).0 (sub_operands m).0))
fin_deeper (Some t) o p (inr z) n m e h =
    either_distance n m e z.distance_from (mul_either t z.size_from h (sub_operands n).0 (sub_operands m).0)
