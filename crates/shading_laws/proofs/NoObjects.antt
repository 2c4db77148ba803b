-- With no object the factor is exactly 1. Assumes nothing.
use mathlib.Core.Path.{◌≡◌, refl, ap, ◌∙◌}
use mathlib.Core.Bool.{Bool, true, false}
use mathlib.Core.List.{[]}
use lib.Ieee.{Float, add, lt, eq}
use Rattle.doubles.specs.Arithmetic.{◌⊕◌, whole}
use Rattle.doubles.specs.Functions.{min_of2, max_of2, largest_of}
use Rattle.doubles.specs.Order.{◌≺◌, Zero}
use Rattle.doubles.proofs.Order.{lt_excludes}
use Rattle.doubles.proofs.Exact.{sub-zero_same, div_self}
use Rattle.doubles.proofs.Bounds.{positive_nonzero}
use Rattle.objects.specs.declared.surface.Surface.{Surface}
use Rattle.shading.specs.declared.sun_on_surface.SunOnSurface.{SunOnSurface}
use Rattle.shading.specs.Factor.{extents, obstacle_extents, overhang_extents, window_overhang_extents, right_fin_extents, left_fin_extents, overhang_shade, sunlit_between, sunlit_height, sunlit_width, sunlit_part, least_of, reduction_factor}
use Rattle.shading_laws.specs.Premises.{AcceptedSurface}
use Rattle.shading_laws.proofs.Sides.{Side, side_positive, side_nonneg, part, area_positive, area_finite}
use Rattle.shading_laws.proofs.Bounds.{height_side, width_side}

not_negative : {side : Float} → Side side → lt side (whole 0) ≡ false
not_negative {side} s = go (lt side (whole 0)) (λ (h : side ≺ whole 0). lt_excludes h (side_nonneg s)) refl
  where
    go : (b : Bool) → (side ≺ whole 0 → ⊥) → lt side (whole 0) ≡ b → b ≡ false
    go true f e = absurd (f (record { holds = rw e tt }))
    go false f e = refl

no_shade : {side : Float} → Side side → min_of2 side (whole 0) ≡ whole 0
unfolding min_of2
no_shade s = rw (not_negative s)

zero-zero : Zero (whole 0 ⊕ whole 0)
unfolding whole add eq
zero-zero = record { holds = tt }

all_sunlit : {side : Float} → Side side → sunlit_between side (whole 0) (whole 0) ≡ side
unfolding sunlit_between max_of2
all_sunlit {side} s = rw (sub-zero_same s.double (positive_nonzero (side_positive s)) zero-zero, not_negative s)

all_of_it : {height width : Float} → Side height → Side width → part height width height width ≡ whole 1
unfolding part
all_of_it h w = div_self (area_finite h w) (positive_nonzero (area_positive h w))

module _ (surface : Surface) (a : AcceptedSurface surface) (sun : SunOnSurface) where
  no_overhang : overhang_shade surface sun [] [] ≡ whole 0
  unfolding overhang_shade overhang_extents window_overhang_extents extents largest_of
  no_overhang = no_shade (height_side a)

  all_height : sunlit_height surface sun [] (whole 0) ≡ surface.height
  unfolding sunlit_height sunlit_between obstacle_extents extents largest_of
  all_height = ap (λ (x : Float). sunlit_between surface.height x (whole 0)) (no_shade (height_side a)) ∙ all_sunlit (height_side a)

  all_width : sunlit_width surface sun [] ≡ surface.width
  unfolding sunlit_width sunlit_between right_fin_extents left_fin_extents extents largest_of
  all_width = ap (λ (x : Float). sunlit_between surface.width x x) (no_shade (width_side a)) ∙ all_sunlit (width_side a)

  -- bit for bit
  pub factor_no_objects : reduction_factor surface sun [] [] ≡ whole 1
  unfolding reduction_factor sunlit_part part least_of extents
  factor_no_objects =
      let whole_part : Float → Float → Float = part surface.height surface.width in
      ap (λ (x : Float). whole_part (sunlit_height surface sun [] x) (sunlit_width surface sun [])) no_overhang
      ∙ ap (λ (x : Float). whole_part x (sunlit_width surface sun [])) all_height
      ∙ ap (whole_part surface.height) all_width
      ∙ all_of_it (height_side a) (width_side a)
