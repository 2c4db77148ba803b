-- The factor lies from 0 to 1, and so do the sunlit height and width within the surface's. Assumes nothing.
use mathlib.Core.Path.{◌≡◌, refl, sym, subst}
use mathlib.Core.Logic.{inl, inr}
use mathlib.Core.List.Memᴰ
use mathlib.Core.List.{List, ◌∷◌, ◌++◌, Memᴰ}
use lib.Dec.{T}
use lib.Ieee.{Float}
use Rattle.doubles.specs.Arithmetic.{◌⊖◌, ◌⊗◌, whole}
use Rattle.doubles.specs.Functions.{min_of2, float_min, largest_of, smallest_of}
use Rattle.doubles.specs.Order.{◌≼◌, Number}
use Rattle.doubles.proofs.Order.{le_trans, right_number}
use Rattle.doubles.proofs.Bounds.{zero_number, cut_below}
use Rattle.doubles.proofs.Folds.{Numbers, smallest_member, smallest_bound}
use Rattle.doubles.proofs.Lists.{append_numbers, largest_nonneg}
use Rattle.doubles.proofs.MinMax.{float_min_is}
use Rattle.doubles.proofs.Ranges.{Between}
use Rattle.objects.specs.declared.surface.Surface.{Surface}
use Rattle.objects.specs.declared.sectors.ShadingObject.{ShadingObject}
use Rattle.objects.specs.declared.window.WindowShadingObject.{WindowShadingObject}
use Rattle.extents.specs.Extents.{obstacle_height}
use Rattle.objects.specs.declared.window.WindowShadingType.TheVariants.{Obstacle}
use Rattle.objects.specs.Objects.{of_kind}
use Rattle.shading.specs.declared.sun_on_surface.SunOnSurface.{SunOnSurface}
use Rattle.shading.specs.Factor.{extents, obstacle_extents, overhang_extents, window_overhang_extents, right_fin_extents, left_fin_extents, overhang_shade, sunlit_between, sunlit_height, sunlit_width, sunlit_part, near_factor, reduction_factor, near_obstacle_height}
use Rattle.shading_laws.specs.Premises.{AcceptedSurface, NoNanExtent, AcceptedNear}
use Rattle.shading_laws.proofs.Sides.{Side, cut_between, remains_between, part, part_nonneg, part_le_one, near_height, near_between, side_number, high}
use Rattle.shading_laws.proofs.Members.{Extent, extents_from, least_is}

pub height_side : {surface : Surface} → AcceptedSurface surface → Side surface.height
height_side a = record { least = a.height_from; most = a.height_to; double = a.height_fits }

pub width_side : {surface : Surface} → AcceptedSurface surface → Side surface.width
width_side a = record { least = a.width_from; most = a.width_to; double = a.width_fits }

-- an extent that is a number is not negative
pub obstacle_nonneg : (base height distance tan_altitude : Float) → Number (obstacle_height base height distance tan_altitude) → whole 0 ≼ obstacle_height base height distance tan_altitude
unfolding obstacle_height
obstacle_nonneg base height distance tan_altitude n = cut_below (whole 0) (height ⊖ base ⊖ distance ⊗ tan_altitude) zero_number n

-- a near obstacle's shade, cut off at the height
unfoldable pub near_shade : Surface → SunOnSurface → WindowShadingObject → Float
near_shade surface sun o = float_min surface.height (near_obstacle_height surface sun o)

pub near_shade_between : (surface : Surface) (sun : SunOnSurface) (o : WindowShadingObject) → AcceptedSurface surface
    → Number (near_obstacle_height surface sun o) → Between surface.height (near_shade surface sun o)
unfolding near_shade near_obstacle_height
near_shade_between surface sun o a n =
    subst (Between surface.height) (sym (float_min_is (side_number (height_side a)) n))
    (cut_between (height_side a) (obstacle_nonneg surface.base_height o.size o.distance sun.tan_altitude n))

pub near_factor_is : (surface : Surface) (sun : SunOnSurface) (hk_overhang wk_sun : Float) (o : WindowShadingObject)
    → near_factor surface sun hk_overhang wk_sun o ≡ part surface.height surface.width (near_height surface.height (near_shade surface sun o) hk_overhang o.transparency) wk_sun
unfolding near_factor part near_height near_shade near_obstacle_height sunlit_part
near_factor_is surface sun hk_overhang wk_sun o = refl

-- the part in the sun before the near obstacles
unfoldable pub base : Surface → SunOnSurface → List ShadingObject → List WindowShadingObject → Float
base surface sun distants window = sunlit_part surface (sunlit_height surface sun distants (overhang_shade surface sun distants window)) (sunlit_width surface sun window)

-- the factors that the near obstacles allow
unfoldable pub near : Surface → SunOnSurface → List ShadingObject → List WindowShadingObject → WindowShadingObject → Float
near surface sun distants window = near_factor surface sun (overhang_shade surface sun distants window) (sunlit_width surface sun window)

unfoldable pub nears : Surface → SunOnSurface → List ShadingObject → List WindowShadingObject → List Float
nears surface sun distants window = extents (of_kind Obstacle) (near surface sun distants window) window

module _ {surface : Surface} {sun : SunOnSurface} {distants : List ShadingObject} {window : List WindowShadingObject}
    (a : AcceptedSurface surface) (n : NoNanExtent surface sun distants window) where
  pub overhang_numbers : Numbers (overhang_extents surface sun distants ++ window_overhang_extents sun window)
  overhang_numbers = append_numbers (overhang_extents surface sun distants) (window_overhang_extents sun window) n.overhangs n.window_overhangs

  pub overhang_between : Between surface.height (overhang_shade surface sun distants window)
  unfolding overhang_shade
  overhang_between = cut_between (height_side a) (largest_nonneg (overhang_extents surface sun distants ++ window_overhang_extents sun window) overhang_numbers)

  pub obstacle_between : Between surface.height (min_of2 surface.height (largest_of (whole 0) (obstacle_extents surface sun distants)))
  obstacle_between = cut_between (height_side a) (largest_nonneg (obstacle_extents surface sun distants) n.obstacles)

  pub right_between : Between surface.width (min_of2 surface.width (largest_of (whole 0) (right_fin_extents sun window)))
  right_between = cut_between (width_side a) (largest_nonneg (right_fin_extents sun window) n.right_fins)

  pub left_between : Between surface.width (min_of2 surface.width (largest_of (whole 0) (left_fin_extents sun window)))
  left_between = cut_between (width_side a) (largest_nonneg (left_fin_extents sun window) n.left_fins)

  -- the sunlit height is from 0 to the surface's
  pub height_between : Between surface.height (sunlit_height surface sun distants (overhang_shade surface sun distants window))
  unfolding sunlit_height sunlit_between
  height_between = remains_between (height_side a) obstacle_between.low overhang_between.low

  -- and so the width
  pub width_between : Between surface.width (sunlit_width surface sun window)
  unfolding sunlit_width sunlit_between
  width_between = remains_between (width_side a) right_between.low left_between.low

  pub base_nonneg : whole 0 ≼ base surface sun distants window
  unfolding base sunlit_part part
  base_nonneg = part_nonneg (height_side a) (width_side a) (high (height_side a) (width_side a) height_between) width_between

  pub base_le_one : base surface sun distants window ≼ whole 1
  unfolding base sunlit_part part
  base_le_one = part_le_one (height_side a) (width_side a) height_between width_between

  module _ (b : AcceptedNear window) where
    pub near_height_between : (o : WindowShadingObject) → Memᴰ o window → T (of_kind Obstacle o)
        → Between (whole 2000) (near_height surface.height (near_shade surface sun o) (overhang_shade surface sun distants window) o.transparency)
    near_height_between o m t =
        near_between (height_side a) (near_shade_between surface sun o a (n.near_obstacles o m t)) overhang_between
        (record { low = b.transparency_from o m t; high = b.transparency_to o m t })

    -- not negative, and no more is said: it may be above 1 by a rounding
    pub near_nonneg : (o : WindowShadingObject) → Memᴰ o window → T (of_kind Obstacle o) → whole 0 ≼ near surface sun distants window o
    unfolding near
    near_nonneg o m t =
        rw (near_factor_is surface sun (overhang_shade surface sun distants window) (sunlit_width surface sun window) o)
        (part_nonneg (height_side a) (width_side a) (near_height_between o m t) width_between)

    nears_nonneg : (x : Float) → Memᴰ x (nears surface sun distants window) → whole 0 ≼ x
    unfolding nears
    nears_nonneg x m =
        let e : Extent (of_kind Obstacle) (near surface sun distants window) window x = extents_from (of_kind Obstacle) (near surface sun distants window) window x m in
        rw e.value (near_nonneg e.object e.member e.of_kind_lem)

    pub nears_numbers : Numbers (base surface sun distants window ∷ nears surface sun distants window)
    nears_numbers x m = elim (Memᴰ.cases_cons m) [ inl e ↦ rw e (right_number base_nonneg) | inr k ↦ right_number (nears_nonneg x k) ]

    -- the factor is the smallest of them all
    pub factor_is : reduction_factor surface sun distants window ≡ smallest_of (base surface sun distants window) (nears surface sun distants window)
    unfolding reduction_factor base near nears
    factor_is = least_is (base surface sun distants window) (nears surface sun distants window) (right_number base_nonneg) (λ x m. right_number (nears_nonneg x m))

    -- every factor lies from 0 to 1
    pub factor_nonneg : whole 0 ≼ reduction_factor surface sun distants window
    factor_nonneg =
        rw factor_is
        (elim (Memᴰ.cases_cons (smallest_member (base surface sun distants window) (nears surface sun distants window))) [ inl e ↦ rw e base_nonneg | inr k ↦ nears_nonneg (smallest_of (base surface sun distants window) (nears surface sun distants window)) k ])

    pub factor_le_one : reduction_factor surface sun distants window ≼ whole 1
    factor_le_one = rw factor_is (le_trans (smallest_bound (base surface sun distants window) (nears surface sun distants window) nears_numbers (base surface sun distants window) (Memᴰ.head refl)) base_le_one)
