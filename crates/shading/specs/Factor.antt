-- The direct shading reduction factor at one step (ISO 52016-1 Annex F), in the Rust's order of operations.
use Rattle.std.specs.Prelude.{Bool, false, cond, ◌||◌, List, [], ◌∷◌, ◌++◌, ℕ, Float, Err, Ok, Result}
use Rattle.objects.specs.declared.answers.Refusal.{Refusal}
use Rattle.doubles.specs.Arithmetic.{◌⊕◌, ◌⊖◌, ◌⊗◌, ◌⊘◌, whole}
use Rattle.doubles.specs.Functions.{min_of2, max_of2, float_min, float_max, largest_of, to_radians}
use Rattle.angles.specs.Sine.{cosine, tangent}
use Rattle.objects.specs.declared.surface.Surface.{Surface}
use Rattle.objects.specs.declared.sectors.ShadingObject.{ShadingObject}
use Rattle.objects.specs.declared.sectors.ShadingSegment.{ShadingSegment}
use Rattle.objects.specs.declared.window.WindowShadingObject.{WindowShadingObject}
use Rattle.objects.specs.declared.answers.Refusal.TheVariants as refusal
use Rattle.objects.specs.declared.window.WindowShadingType.TheVariants.{Obstacle, Overhang, SideFinRight, SideFinLeft, Reveal}
use Rattle.objects.specs.Objects.{of_kind, is_obstacle, is_overhang, counted}
use Rattle.shading.specs.declared.sun_on_surface.SunOnSurface.{SunOnSurface}
use Rattle.orientation.specs.Orientation.{orientation180}
use Rattle.beam.specs.Beam.{outside_solar_beam}
use Rattle.extents.specs.Extents.{obstacle_height, overhang_height, window_overhang_height}
use Rattle.fins.specs.Fins.{fin_width, fins_of}
use Rattle.segments.specs.Segments.{segment_of}

-- ---- the shade extents of a list of objects

-- the extents of those objects of a list that are of one kind, in list order
unfoldable pub extents : {Object : Type 0} → (Object → Bool) → (Object → Float) → List Object → List Float
extents kind extent [] = []
extents kind extent (o ∷ rest) = let later = extents kind extent rest in cond (kind o) (extent o ∷ later) later

-- the sun as the extents need it, with the fins of an edition; its azimuth less the surface's orientation from south is not wrapped here
unfoldable pub sun_on : ℕ → Surface → Float → Float → SunOnSurface
sun_on edition surface altitude azimuth =
    let difference = azimuth ⊖ orientation180 surface.orientation in
    record {
      tan_altitude = tangent (to_radians altitude);
      cos_difference = cosine (to_radians difference);
      fins = fins_of edition difference;
    }

unfoldable pub obstacle_extents : Surface → SunOnSurface → List ShadingObject → List Float
unfolding extents is_obstacle obstacle_height
obstacle_extents surface sun = extents is_obstacle (λ o. obstacle_height surface.base_height o.height o.distance sun.tan_altitude)

unfoldable pub overhang_extents : Surface → SunOnSurface → List ShadingObject → List Float
unfolding extents is_overhang overhang_height
overhang_extents surface sun =
    extents is_overhang (λ o. overhang_height surface.height surface.base_height o.height o.distance sun.tan_altitude)

unfoldable pub window_overhang_extents : SunOnSurface → List WindowShadingObject → List Float
unfolding extents of_kind window_overhang_height
window_overhang_extents sun =
    extents (of_kind Overhang) (λ o. window_overhang_height o.size o.distance sun.tan_altitude sun.cos_difference)

unfoldable pub right_fin_extents : SunOnSurface → List WindowShadingObject → List Float
unfolding extents of_kind fin_width
right_fin_extents sun = extents (of_kind SideFinRight) (λ o. fin_width sun.fins.right o.size o.distance)

unfoldable pub left_fin_extents : SunOnSurface → List WindowShadingObject → List Float
unfolding extents of_kind fin_width
left_fin_extents sun = extents (of_kind SideFinLeft) (λ o. fin_width sun.fins.left o.size o.distance)

-- ---- what is left in the sun

-- the height that the largest overhang shades, distant or at the window, up to the surface's own
unfoldable pub overhang_shade : Surface → SunOnSurface → List ShadingObject → List WindowShadingObject → Float
unfolding overhang_extents window_overhang_extents largest_of min_of2 whole
overhang_shade surface sun distants window =
    min_of2 surface.height (largest_of (whole 0) (overhang_extents surface sun distants ++ window_overhang_extents sun window))

-- what two shades leave of a height or a width
unfoldable pub sunlit_between : Float → Float → Float → Float
unfolding max_of2 whole
sunlit_between all one other = max_of2 (whole 0) (all ⊖ (one ⊕ other))

-- the height between the largest obstacle's shade and the largest overhang's
unfoldable pub sunlit_height : Surface → SunOnSurface → List ShadingObject → Float → Float
unfolding obstacle_extents largest_of min_of2 whole sunlit_between
sunlit_height surface sun distants hk_overhang =
    let hk_obstacle = min_of2 surface.height (largest_of (whole 0) (obstacle_extents surface sun distants)) in
    sunlit_between surface.height hk_obstacle hk_overhang

-- the width between the largest fins' shades
unfoldable pub sunlit_width : Surface → SunOnSurface → List WindowShadingObject → Float
unfolding right_fin_extents left_fin_extents largest_of min_of2 whole sunlit_between
sunlit_width surface sun window =
    let wk_right = min_of2 surface.width (largest_of (whole 0) (right_fin_extents sun window)) in
    let wk_left = min_of2 surface.width (largest_of (whole 0) (left_fin_extents sun window)) in
    sunlit_between surface.width wk_right wk_left

-- the part of the surface that a sunlit height and width make
unfoldable pub sunlit_part : Surface → Float → Float → Float
sunlit_part surface height width = height ⊗ width ⊘ (surface.height ⊗ surface.width)

-- a near obstacle's own shade
unfoldable pub near_obstacle_height : Surface → SunOnSurface → WindowShadingObject → Float
unfolding obstacle_height
near_obstacle_height surface sun o = obstacle_height surface.base_height o.size o.distance sun.tan_altitude

-- the factor that a near obstacle allows: what it lets through counts by its transparency
unfoldable pub near_factor : Surface → SunOnSurface → Float → Float → WindowShadingObject → Float
unfolding near_obstacle_height float_min float_max sunlit_part whole
near_factor surface sun hk_overhang wk_sun o =
    let hk_obstacle = float_min surface.height (near_obstacle_height surface sun o) in
    let hk_sun =
    float_max (whole 0) (surface.height ⊖ (hk_obstacle ⊕ hk_overhang)) ⊕ float_min hk_obstacle (surface.height ⊖ hk_overhang) ⊗ o.transparency
    in
    sunlit_part surface hk_sun wk_sun

-- the least of a factor and a list of factors, by the float method
unfoldable pub least_of : Float → List Float → Float
unfolding float_min
least_of first [] = first
least_of first (x ∷ xs) = least_of (float_min first x) xs

-- distant objects and those at the window first, and last the near obstacles, each against the largest overhang
unfoldable pub reduction_factor : Surface → SunOnSurface → List ShadingObject → List WindowShadingObject → Float
unfolding overhang_shade sunlit_height sunlit_width sunlit_part near_factor least_of extents of_kind
reduction_factor surface sun distants window =
    let hk_overhang = overhang_shade surface sun distants window in
    let wk_sun = sunlit_width surface sun window in
    least_of (sunlit_part surface (sunlit_height surface sun distants hk_overhang) wk_sun)
    (extents (of_kind Obstacle) (near_factor surface sun hk_overhang wk_sun) window)

-- ---- the factor, or a refusal

unfoldable pub has_reveal : List WindowShadingObject → Bool
unfolding of_kind
has_reveal [] = false
has_reveal (o ∷ rest) = of_kind Reveal o || has_reveal rest

-- once the walk has come to a sector: a reveal is refused
unfoldable pub factor_in : Surface → SunOnSurface → List WindowShadingObject → Result ShadingSegment Refusal → Result Float Refusal
factor_in surface sun window (Ok s) = cond (has_reveal window) (Err refusal.Reveal) (Ok (reduction_factor surface sun (counted s) window))
factor_in surface sun window (Err r) = Err r

-- outside the beam the answer is 1 and nothing else is looked at
unfoldable pub shading_factor : ℕ → Surface → Float → Float → List ShadingSegment → List WindowShadingObject → Result Float Refusal
unfolding whole
shading_factor edition surface altitude azimuth sectors window =
    cond (outside_solar_beam surface.tilt surface.orientation altitude azimuth) (Ok (whole 1))
    (factor_in surface (sun_on edition surface altitude azimuth) window (segment_of azimuth sectors))
