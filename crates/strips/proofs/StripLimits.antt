-- Two claims that are false of strips, computed by the checker: that one strip has the plain factor, and that the answer lies between the
-- least and the largest of the strips' own. The glazing is upright, faces south and stands on the ground; the sun is at altitude 0.
use Rattle.std.specs.Prelude.{Float, Result}
use Rattle.objects.specs.declared.answers.Refusal.{Refusal}
use mathlib.Core.Path.{◌≡◌, refl}
use mathlib.Core.Bool.{Bool, true, ◌&&◌}
use mathlib.Core.List.{List, [], ◌∷◌}
use lib.Ieee.{Float, add, sub, mul, div, neg, lt, le, eq, is_nan, to_unsigned, of_int, of_bits}
use Rattle.doubles.specs.Arithmetic.{whole, decimal}
use Rattle.doubles.specs.Functions.{clamp, floor_of, to_radians, float_max, float_min}
use Rattle.angles.specs.Sine.{is_angle, quarter_turns, quadrant, remainder, sine_sum, cosine_sum, sine_series, cosine_series, sine_at, cosine_at, sine, cosine, tangent}
use Rattle.orientation.specs.Orientation.{orientation180, wrapped_once}
use Rattle.extents.specs.Extents.{obstacle_height}
use Rattle.fins.specs.Fins.{right_fin1, left_fin1, fins_of}
use Rattle.objects.specs.declared.window.WindowShadingType.TheVariants.{Obstacle}
use Rattle.objects.specs.Objects.{counted}
use Rattle.beam.specs.Beam.{outside_solar_beam}
use Rattle.segments.specs.Segments.{segment_of}
use Rattle.shading.specs.Factor.{sun_on, reduction_factor, has_reveal, factor_in, shading_factor}
use Rattle.shading_laws.proofs.SizeLimits.{wall, part, around, raised}
use Rattle.strips.specs.declared.glazing.TallGlazing.{TallGlazing}
use Rattle.strips.specs.Strips.{strip_of, strips_from, on_factor, mean_from, mean_factor, strips_factor}

unfoldable pub upright : Float → TallGlazing
upright width = record { tilt = whole 90; orientation = whole 180; base_height = whole 0; width = width }

-- 0.7 m wide, behind a distant obstacle of 0.01 m: in strips, and as one surface
unfoldable pub kerb_in_strips : List Float → Result Float Refusal
kerb_in_strips heights = strips_factor 1 (whole 0) (whole 0) (strips_from (upright (decimal 7 1)) (whole 0) heights) (around 1 (wall (decimal 1 2) (whole 10) ∷ [])) []

unfoldable pub kerb : Float → Result Float Refusal
kerb height = shading_factor 1 (strip_of (upright (decimal 7 1)) (whole 0) height) (whole 0) (whole 0) (around 1 (wall (decimal 1 2) (whole 10) ∷ [])) []

-- 1 m wide, behind a near obstacle of 10 m that lets a tenth through: in strips, and one strip by itself
unfoldable pub hedge_in_strips : List Float → Result Float Refusal
hedge_in_strips heights = strips_factor 1 (whole 0) (whole 0) (strips_from (upright (whole 1)) (whole 0) heights) (around 0 []) (part Obstacle (whole 10) (decimal 1 1) ∷ [])

unfoldable pub hedge : Float → Float → Result Float Refusal
hedge base height = shading_factor 1 (strip_of (upright (whole 1)) base height) (whole 0) (whole 0) (around 0 []) (part Obstacle (whole 10) (decimal 1 1) ∷ [])

unfoldable pub false_of_strips : Bool
false_of_strips =
    -- one strip of 0.05 m is above the plain factor
    raised (kerb (decimal 5 2)) (kerb_in_strips (decimal 5 2 ∷ []))
    -- strips of 1.5 m and 1.8 m: above both
    && raised (hedge (whole 0) (decimal 15 1)) (hedge_in_strips (decimal 15 1 ∷ decimal 18 1 ∷ []))
    && raised (hedge (decimal 15 1) (decimal 18 1)) (hedge_in_strips (decimal 15 1 ∷ decimal 18 1 ∷ []))
    -- strips of 0.4 m and 1.2 m: below both
    && raised (hedge_in_strips (decimal 4 1 ∷ decimal 12 1 ∷ [])) (hedge (whole 0) (decimal 4 1))
    && raised (hedge_in_strips (decimal 4 1 ∷ decimal 12 1 ∷ [])) (hedge (decimal 4 1) (decimal 12 1))

pub false_of_strips_lem : false_of_strips ≡ true
unfolding false_of_strips kerb_in_strips kerb hedge_in_strips hedge upright raised wall part around strips_factor mean_factor mean_from on_factor strips_from strip_of
    add sub mul div neg lt le eq is_nan to_unsigned of_int of_bits whole decimal floor_of to_radians float_max float_min
    sine cosine tangent is_angle quarter_turns quadrant remainder sine_series sine_sum sine_at cosine_series cosine_sum cosine_at clamp
    orientation180 wrapped_once right_fin1 left_fin1 fins_of obstacle_height
    counted outside_solar_beam segment_of sun_on reduction_factor has_reveal factor_in shading_factor
false_of_strips_lem = refl
