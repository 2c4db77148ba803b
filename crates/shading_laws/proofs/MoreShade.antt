-- More shade never makes the factor larger: every step from an extent to the factor keeps the order or turns it round. Assumes nothing.
use mathlib.Core.Path.{◌≡◌, refl}
use mathlib.Core.Logic.{◌⊎◌, inl, inr}
use mathlib.Core.List.Memᴰ
use mathlib.Core.List.{List, ◌∷◌, ◌++◌, Memᴰ}
use lib.Dec.{T}
use lib.Ieee.{Float}
use Rattle.doubles.specs.Arithmetic.{whole}
use Rattle.doubles.specs.Functions.{min_of2, largest_of, smallest_of}
use Rattle.doubles.specs.Order.{◌≼◌}
use Rattle.doubles.proofs.Order.{le_refl, le_trans}
use Rattle.doubles.proofs.Folds.{smallest_member, smallest_bound}
use Rattle.doubles.proofs.Lists.{AllReached, append_reached, largest_grows}
use Rattle.doubles.proofs.MinMax.{min_mono}
use Rattle.doubles.proofs.Ranges.{Between}
use Rattle.objects.specs.declared.surface.Surface.{Surface}
use Rattle.objects.specs.declared.sectors.ShadingObject.{ShadingObject}
use Rattle.objects.specs.declared.window.WindowShadingObject.{WindowShadingObject}
use Rattle.objects.specs.declared.window.WindowShadingType.TheVariants.{Obstacle}
use Rattle.objects.specs.Objects.{of_kind}
use Rattle.shading.specs.declared.sun_on_surface.SunOnSurface.{SunOnSurface}
use Rattle.shading.specs.Factor.{obstacle_extents, overhang_extents, window_overhang_extents, right_fin_extents, left_fin_extents, overhang_shade, sunlit_between, sunlit_height, sunlit_width, sunlit_part, reduction_factor}
use Rattle.shading_laws.specs.Premises.{AcceptedSurface, NoNanExtent, AcceptedNear}
use Rattle.shading_laws.proofs.Sides.{side_number, remains_falls, part, part_mono, near_height, near_falls, high}
use Rattle.shading_laws.proofs.Members.{Extent, extents_from, extents_into}
use Rattle.shading_laws.proofs.Bounds.{height_side, width_side, base, near, nears, near_shade, near_shade_between, near_factor_is, overhang_numbers, overhang_between, obstacle_between, right_between, left_between, height_between, width_between, near_height_between, nears_numbers, factor_is}

-- ---- one pair of lists dominates another

-- a near obstacle's own height behind an overhang: what is lit above it and through it
abbrev pub own_height : Surface → SunOnSurface → WindowShadingObject → Float → Float
own_height surface sun o overhang = near_height surface.height (near_shade surface sun o) overhang o.transparency

-- a near obstacle of vs whose own height is at most o's, whatever the overhang
pub record Darkened (surface : Surface) (sun : SunOnSurface) (vs : List WindowShadingObject) (o : WindowShadingObject) : Type 0 where
  pub object : WindowShadingObject
  pub member : Memᴰ object vs
  pub of_kind_lem : T (of_kind Obstacle object)
  pub lower : (overhang : Float) → Between surface.height overhang → own_height surface sun object overhang ≼ own_height surface sun o overhang

-- each extent of the first lists is at most 0 or some extent of the second, and each near obstacle is darkened
pub record Dominates (surface : Surface) (sun : SunOnSurface) (xs ys : List ShadingObject) (ws vs : List WindowShadingObject) : Type 0 where
  pub obstacles : AllReached (obstacle_extents surface sun xs) (obstacle_extents surface sun ys)
  pub overhangs : AllReached (overhang_extents surface sun xs) (overhang_extents surface sun ys)
  pub window_overhangs : AllReached (window_overhang_extents sun ws) (window_overhang_extents sun vs)
  pub right_fins : AllReached (right_fin_extents sun ws) (right_fin_extents sun vs)
  pub left_fins : AllReached (left_fin_extents sun ws) (left_fin_extents sun vs)
  pub near_obstacles : (o : WindowShadingObject) → Memᴰ o ws → T (of_kind Obstacle o) → Darkened surface sun vs o

-- ---- from less shade (xs, ws) to more (ys, vs)

module _ {surface : Surface} {sun : SunOnSurface} {xs ys : List ShadingObject} {ws vs : List WindowShadingObject}
    (a : AcceptedSurface surface) (less : NoNanExtent surface sun xs ws) (more : NoNanExtent surface sun ys vs) (d : Dominates surface sun xs ys ws vs) where
  pub overhang_grows : overhang_shade surface sun xs ws ≼ overhang_shade surface sun ys vs
  unfolding overhang_shade
  overhang_grows =
      min_mono (le_refl (side_number (height_side a)))
      (largest_grows (overhang_extents surface sun xs ++ window_overhang_extents sun ws) (overhang_extents surface sun ys ++ window_overhang_extents sun vs) (overhang_numbers a more)
      (append_reached (overhang_extents surface sun xs) (window_overhang_extents sun ws) (overhang_extents surface sun ys) (window_overhang_extents sun vs) d.overhangs d.window_overhangs))

  pub obstacle_grows : min_of2 surface.height (largest_of (whole 0) (obstacle_extents surface sun xs)) ≼ min_of2 surface.height (largest_of (whole 0) (obstacle_extents surface sun ys))
  obstacle_grows =
      min_mono (le_refl (side_number (height_side a)))
      (largest_grows (obstacle_extents surface sun xs) (obstacle_extents surface sun ys) more.obstacles d.obstacles)

  pub right_grows : min_of2 surface.width (largest_of (whole 0) (right_fin_extents sun ws)) ≼ min_of2 surface.width (largest_of (whole 0) (right_fin_extents sun vs))
  right_grows =
      min_mono (le_refl (side_number (width_side a)))
      (largest_grows (right_fin_extents sun ws) (right_fin_extents sun vs) more.right_fins d.right_fins)

  pub left_grows : min_of2 surface.width (largest_of (whole 0) (left_fin_extents sun ws)) ≼ min_of2 surface.width (largest_of (whole 0) (left_fin_extents sun vs))
  left_grows =
      min_mono (le_refl (side_number (width_side a)))
      (largest_grows (left_fin_extents sun ws) (left_fin_extents sun vs) more.left_fins d.left_fins)

  height_falls : sunlit_height surface sun ys (overhang_shade surface sun ys vs) ≼ sunlit_height surface sun xs (overhang_shade surface sun xs ws)
  unfolding sunlit_height sunlit_between
  height_falls = remains_falls (height_side a) (obstacle_between a less).low (overhang_between a less).low obstacle_grows overhang_grows

  width_falls : sunlit_width surface sun vs ≼ sunlit_width surface sun ws
  unfolding sunlit_width sunlit_between
  width_falls = remains_falls (width_side a) (right_between a less).low (left_between a less).low right_grows left_grows

  base_falls : base surface sun ys vs ≼ base surface sun xs ws
  unfolding base sunlit_part part
  base_falls =
      part_mono (height_side a) (width_side a) (high (height_side a) (width_side a) (height_between a more)) (width_between a more)
      (high (height_side a) (width_side a) (height_between a less)) (width_between a less) height_falls width_falls

  module _ (b : AcceptedNear ws) (c : AcceptedNear vs) where
    -- the near obstacle that darkens o, behind the larger overhang and the narrower width
    near_falls_by : (o : WindowShadingObject) → Memᴰ o ws → T (of_kind Obstacle o) → (e : Darkened surface sun vs o) → near surface sun ys vs e.object ≼ near surface sun xs ws o
    unfolding near
    near_falls_by o m t e =
        rw (
          near_factor_is surface sun (overhang_shade surface sun ys vs) (sunlit_width surface sun vs) e.object,
          near_factor_is surface sun (overhang_shade surface sun xs ws) (sunlit_width surface sun ws) o,
        )
        (part_mono (height_side a) (width_side a) (near_height_between a more c e.object e.member e.of_kind_lem) (width_between a more)
        (near_height_between a less b o m t) (width_between a less)
        (le_trans (e.lower (overhang_shade surface sun ys vs) (overhang_between a more))
        (near_falls (height_side a) (near_shade_between surface sun o a (less.near_obstacles o m t)) (overhang_between a less) (overhang_between a more)
        (record { low = b.transparency_from o m t; high = b.transparency_to o m t }) overhang_grows))
        width_falls)

    least_bound : (x : Float) → Memᴰ x (base surface sun ys vs ∷ nears surface sun ys vs) → smallest_of (base surface sun ys vs) (nears surface sun ys vs) ≼ x
    least_bound = smallest_bound (base surface sun ys vs) (nears surface sun ys vs) (nears_numbers a more c)

    of_near : (x : Float) → Extent (of_kind Obstacle) (near surface sun xs ws) ws x → smallest_of (base surface sun ys vs) (nears surface sun ys vs) ≼ x
    unfolding nears
    of_near x e =
        let p = d.near_obstacles e.object e.member e.of_kind_lem in
        rw e.value
        (le_trans
        (least_bound (near surface sun ys vs p.object) (Memᴰ.tail (extents_into (of_kind Obstacle) (near surface sun ys vs) vs p.object p.member p.of_kind_lem)))
        (near_falls_by e.object e.member e.of_kind_lem p))

    of_any : (x : Float) → (x ≡ base surface sun xs ws) ⊎ Memᴰ x (nears surface sun xs ws) → smallest_of (base surface sun ys vs) (nears surface sun ys vs) ≼ x
    unfolding nears
    of_any x (inl e) = rw e (le_trans (least_bound (base surface sun ys vs) (Memᴰ.head refl)) base_falls)
    of_any x (inr m) = of_near x (extents_from (of_kind Obstacle) (near surface sun xs ws) ws x m)

    pub factor_falls : reduction_factor surface sun ys vs ≼ reduction_factor surface sun xs ws
    factor_falls =
        rw (factor_is a more c, factor_is a less b)
        (of_any (smallest_of (base surface sun xs ws) (nears surface sun xs ws)) (Memᴰ.cases_cons (smallest_member (base surface sun xs ws) (nears surface sun xs ws))))
