-- The width that a fin at the window shades (ISO 52016-1 Annex F), in the two editions of the rule. `difference` is the sun's azimuth less
-- the surface's orientation from south, in degrees, not wrapped. Lengths are in metres.
use Rattle.std.specs.Prelude.{◌≡◌, Bool, cond, ◌||◌, ℕ, eqb, Float, Option, Some, None}
use Rattle.std.specs.Float.Ieee.{neg, lt}
use Rattle.doubles.specs.Arithmetic.{◌⊖◌, ◌⊗◌, whole}
use Rattle.doubles.specs.Functions.{to_radians}
use Rattle.doubles.specs.Order.{◌≼◌, ◌≺◌}
use Rattle.angles.specs.Sine.{tangent}
use Rattle.orientation.specs.Orientation.{wrapped_once}
use Rattle.fins.specs.declared.Fins.{Fins}

-- the editions that a call may name
unfoldable pub edition_fine : ℕ → Bool
edition_fine edition = eqb edition 1 || eqb edition 2

-- a fin's extent: its depth times the tangent, less its distance; 0 where it does not shade
unfoldable pub fin_width : Option Float → Float → Float → Float
unfolding whole
fin_width (Some t) depth distance = depth ⊗ t ⊖ distance
fin_width None depth distance = whole 0

-- ---- edition 1, the Rust's: by the difference as it is

-- a right fin shades where it is not above 0, by its tangent, which is negative from −90 to 0
unfoldable pub right_fin1 : Float → Option Float
unfolding whole
right_fin1 difference = cond (lt (whole 0) difference) None (Some (tangent (to_radians difference)))

-- a left fin where it is not below 0
unfoldable pub left_fin1 : Float → Option Float
unfolding whole
left_fin1 difference = cond (lt difference (whole 0)) None (Some (tangent (to_radians difference)))

-- ---- edition 2: by the difference brought into −180..180, as in the beam test

-- a right fin shades where it is below 0, by the tangent of its opposite
unfoldable pub right_fin2 : Float → Option Float
unfolding whole neg
right_fin2 wrapped = cond (lt wrapped (whole 0)) (Some (tangent (to_radians (neg wrapped)))) None

-- a left fin where it is above 0, by its tangent
unfoldable pub left_fin2 : Float → Option Float
unfolding whole
left_fin2 wrapped = cond (lt (whole 0) wrapped) (Some (tangent (to_radians wrapped))) None

-- ---- the choice

abbrev pub fins : Option Float → Option Float → Fins
fins right left = record { right = right; left = left }

-- nothing else of the factor knows the edition
unfoldable pub fins_of : ℕ → Float → Fins
fins_of edition difference =
    let wrapped = wrapped_once difference in
    cond (eqb edition 2) (fins (right_fin2 wrapped) (left_fin2 wrapped)) (fins (right_fin1 difference) (left_fin1 difference))

-- left fins agree between the editions where the difference is above 0 and at most 180
abbrev pub LeftFinsAgree : Type 0
LeftFinsAgree = (difference depth distance : Float) → whole 0 ≺ difference → difference ≼ whole 180
    → fin_width (fins_of 1 difference).left depth distance ≡ fin_width (fins_of 2 difference).left depth distance
