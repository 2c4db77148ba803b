-- Lists that hold the same objects give the same factor, bit for bit: each holds all of the other's, so that the two factors are
-- level, and a factor never has a minus sign. Assumes nothing.
use mathlib.Core.Path.{◌≡◌, sym, subst}
use mathlib.Core.Logic.{◌⊎◌, inl, inr}
use mathlib.Core.List.Memᴰ
use mathlib.Core.List.{List, Memᴰ}
use lib.Dec.{T}
use lib.Ieee.{Float, binary64}
use lib.Ieee.Fits.{add-fits}
use Rattle.doubles.specs.Arithmetic.{whole}
use Rattle.doubles.specs.Functions.{min_of2, largest_of, smallest_of}
use Rattle.doubles.proofs.Folds.{smallest_member}
use Rattle.doubles.proofs.Ranges.{Between}
use Rattle.objects.specs.declared.surface.Surface.{Surface}
use Rattle.objects.specs.declared.sectors.ShadingObject.{ShadingObject}
use Rattle.objects.specs.declared.window.WindowShadingObject.{WindowShadingObject}
use Rattle.objects.specs.declared.window.WindowShadingType.TheVariants.{Obstacle}
use Rattle.objects.specs.Objects.{of_kind}
use Rattle.shading.specs.declared.sun_on_surface.SunOnSurface.{SunOnSurface}
use Rattle.shading.specs.Factor.{obstacle_extents, right_fin_extents, left_fin_extents, overhang_shade, sunlit_between, sunlit_height, sunlit_width, sunlit_part, reduction_factor}
use Rattle.shading_laws.specs.Premises.{AcceptedSurface, NoNanExtent, AcceptedNear, Holds}
use Rattle.shading_laws.proofs.Sides.{Side, side_positive, side_finite, area_positive, part, near_height, near_shape, covered_between, through_between}
use Rattle.shading_laws.proofs.Members.{Extent, extents_from}
use Rattle.shading_laws.proofs.Bounds.{height_side, width_side, base, near, nears, near_shade_between, near_factor_is, overhang_between, factor_is}
use Rattle.shading_laws.proofs.Doubles.{factor_fits}
use Rattle.shading_laws.proofs.MoreObjects.{factor_more_objects}
use Rattle.doubles.proofs.Signs.{Unsigned, mul_unsigned, div_unsigned, add_unsigned, cut_unsigned, positive_unsigned, level_same}

-- ---- what is left of a side has no minus sign, and no part of the surface has

remains_unsigned : {side : Float} (a b : Float) → Side side → Unsigned (sunlit_between side a b)
unfolding sunlit_between
remains_unsigned a b s =
    cut_unsigned s.double (record { holds = add-fits binary64 a b }) (side_finite s) (positive_unsigned (side_positive s))

part_unsigned : {height width h w : Float} → Side height → Side width → Unsigned h → Unsigned w → Unsigned (part height width h w)
unfolding part
part_unsigned H W u v = div_unsigned (mul_unsigned u v) (positive_unsigned (area_positive H W))

near_height_unsigned : {height a o t : Float} → Side height → Between height a → Between height o → Between (whole 1) t → Unsigned (near_height height a o t)
near_height_unsigned {height} {a} {o} {t} H b c d =
    subst Unsigned (sym (near_shape H t b.low c.low))
    (add_unsigned (remains_unsigned a o H) (through_between H (covered_between H b c) d).low)

module _ {surface : Surface} {sun : SunOnSurface} {xs : List ShadingObject} {ws : List WindowShadingObject}
    (a : AcceptedSurface surface) (n : NoNanExtent surface sun xs ws) (b : AcceptedNear ws) where
  width_unsigned : Unsigned (sunlit_width surface sun ws)
  unfolding sunlit_width sunlit_between
  width_unsigned =
      remains_unsigned (min_of2 surface.width (largest_of (whole 0) (right_fin_extents sun ws)))
      (min_of2 surface.width (largest_of (whole 0) (left_fin_extents sun ws))) (width_side a)

  height_unsigned : Unsigned (sunlit_height surface sun xs (overhang_shade surface sun xs ws))
  unfolding sunlit_height sunlit_between
  height_unsigned =
      remains_unsigned (min_of2 surface.height (largest_of (whole 0) (obstacle_extents surface sun xs))) (overhang_shade surface sun xs ws) (height_side a)

  base_unsigned : Unsigned (base surface sun xs ws)
  unfolding base sunlit_part part
  base_unsigned = part_unsigned (height_side a) (width_side a) height_unsigned width_unsigned

  near_unsigned : (o : WindowShadingObject) → Memᴰ o ws → T (of_kind Obstacle o) → Unsigned (near surface sun xs ws o)
  unfolding near
  near_unsigned o m t =
      subst Unsigned (sym (near_factor_is surface sun (overhang_shade surface sun xs ws) (sunlit_width surface sun ws) o))
      (part_unsigned (height_side a) (width_side a)
      (near_height_unsigned (height_side a) (near_shade_between surface sun o a (n.near_obstacles o m t)) (overhang_between a n)
      (record { low = b.transparency_from o m t; high = b.transparency_to o m t }))
      width_unsigned)

  any_unsigned : (x : Float) → (x ≡ base surface sun xs ws) ⊎ Memᴰ x (nears surface sun xs ws) → Unsigned x
  unfolding nears
  any_unsigned x (inl e) = subst Unsigned (sym e) base_unsigned
  any_unsigned x (inr m) =
      let e : Extent (of_kind Obstacle) (near surface sun xs ws) ws x = extents_from (of_kind Obstacle) (near surface sun xs ws) ws x m in
      subst Unsigned (sym e.value) (near_unsigned e.object e.member e.of_kind_lem)

  -- the factor is never −0.0
  pub factor_unsigned : Unsigned (reduction_factor surface sun xs ws)
  factor_unsigned =
      subst Unsigned (sym (factor_is a n b))
      (any_unsigned (smallest_of (base surface sun xs ws) (nears surface sun xs ws)) (Memᴰ.cases_cons (smallest_member (base surface sun xs ws) (nears surface sun xs ws))))

-- the same objects, in any order and number
pub factor_same_objects : {surface : Surface} {sun : SunOnSurface} {xs ys : List ShadingObject} {ws vs : List WindowShadingObject}
    → AcceptedSurface surface → NoNanExtent surface sun xs ws → NoNanExtent surface sun ys vs → AcceptedNear ws → AcceptedNear vs
    → Holds ys xs → Holds xs ys → Holds vs ws → Holds ws vs → reduction_factor surface sun xs ws ≡ reduction_factor surface sun ys vs
factor_same_objects {surface} {sun} {xs} {ys} {ws} {vs} a n m b c h h' k k' =
    level_same (factor_fits surface sun xs ws) (factor_fits surface sun ys vs) (factor_unsigned a n b) (factor_unsigned a m c)
    (record { below = factor_more_objects a m n h' k' c b; above = factor_more_objects a n m h k b c })
