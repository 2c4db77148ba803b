-- Fins in both editions, and where the overhang's cosine would tell that its difference is wrapped: computed by the checker from the
-- definitions.
use Rattle.std.specs.Prelude.{Float, Result}
use Rattle.objects.specs.declared.answers.Refusal.{Refusal}
use mathlib.Core.Path.{◌≡◌, refl}
use mathlib.Core.Bool.{Bool, true, ◌&&◌}
use mathlib.Core.List.{[], ◌∷◌}
use Prim.Native.Nat.{ℕ}
use lib.Ieee.{Float, add, sub, mul, div, neg, lt, le, eq, is_nan, to_unsigned, of_int, to_bits, of_bits}
use Rattle.doubles.specs.Arithmetic.{whole, decimal, bits}
use Rattle.doubles.specs.Functions.{clamp, floor_of, to_radians, float_max}
use Rattle.angles.specs.Sine.{is_angle, quarter_turns, quadrant, remainder, sine_sum, cosine_sum, sine_series, cosine_series, sine_at, cosine_at, sine, cosine, tangent}
use Rattle.orientation.specs.Orientation.{orientation180, wrapped_once}
use Rattle.extents.specs.Extents.{window_overhang_height}
use Rattle.fins.specs.Fins.{fin_width, right_fin1, left_fin1, right_fin2, left_fin2, fins_of}
use Rattle.objects.specs.declared.surface.Surface.{Surface}
use Rattle.objects.specs.declared.window.WindowShadingObject.{WindowShadingObject}
use Rattle.objects.specs.declared.window.WindowShadingType.{WindowShadingType}
use Rattle.objects.specs.declared.window.WindowShadingType.TheVariants.{Overhang, SideFinRight, SideFinLeft}
use Rattle.objects.specs.Objects.{counted}
use Rattle.beam.specs.Beam.{outside_solar_beam}
use Rattle.segments.specs.Segments.{segment_of}
use Rattle.shading.specs.Factor.{sun_on, reduction_factor, has_reveal, factor_in, shading_factor}
use Rattle.worked_values.proofs.EdgeValues.{horizon, same, is_factor}

-- a metre high and wide, its base on the ground
unfoldable pub square : Float → Float → Surface
square tilt orientation = record { tilt = tilt; orientation = orientation; base_height = whole 0; height = whole 1; width = whole 1 }

-- half a metre deep, right at the window
unfoldable pub part : WindowShadingType → WindowShadingObject
part kind = record { object_type = kind; size = decimal 5 1; distance = whole 0; transparency = whole 0 }

-- all that a factor is computed from: to unfold this name unfolds it
factors : ℕ
unfolding square part same is_factor horizon
    add sub mul div neg lt le eq is_nan to_unsigned of_int of_bits to_bits whole decimal bits floor_of to_radians float_max
    sine cosine tangent is_angle quarter_turns quadrant remainder sine_series sine_sum sine_at cosine_series cosine_sum cosine_at clamp
    orientation180 wrapped_once fin_width right_fin1 left_fin1 right_fin2 left_fin2 fins_of
    counted outside_solar_beam segment_of sun_on reduction_factor has_reveal factor_in shading_factor
factors = 0

-- the factor of an upright window at altitude 0
unfoldable pub finned : ℕ → WindowShadingType → Float → Float → Result Float Refusal
finned edition kind orientation azimuth = shading_factor edition (square (whole 90) orientation) (whole 0) azimuth (horizon []) (part kind ∷ [])

-- 1 less half the tangent of 30 degrees: 0.7113248654051871
unfoldable pub partly : Float
partly = bits 0x3FE6C32C5D37E672

-- what a fin half a metre deep and a quarter away shades
unfoldable pub right_width : ℕ → Float → Float
right_width edition difference = fin_width (fins_of edition difference).right (decimal 5 1) (decimal 25 2)

unfoldable pub left_width : ℕ → Float → Float
left_width edition difference = fin_width (fins_of edition difference).left (decimal 5 1) (decimal 25 2)

unfoldable pub fin_values : Bool
fin_values =
    -- difference −30: a right fin shades in edition 2 alone
    is_factor (whole 1) (finned 1 SideFinRight (whole 180) (neg (whole 30)))
    && is_factor partly (finned 2 SideFinRight (whole 180) (neg (whole 30)))
    -- difference 30: a left fin shades in both, alike
    && is_factor partly (finned 1 SideFinLeft (whole 180) (whole 30))
    && is_factor partly (finned 2 SideFinLeft (whole 180) (whole 30))
    -- difference −330, which is 30: the left fin in edition 2 alone, and the right one in edition 1
    && is_factor (whole 1) (finned 1 SideFinLeft (whole 10) (neg (whole 160)))
    && is_factor partly (finned 2 SideFinLeft (whole 10) (neg (whole 160)))
    && is_factor (whole 1) (finned 2 SideFinRight (whole 10) (neg (whole 160)))
    && lt (whole 0) (right_width 1 (neg (whole 330)))
    -- difference 0, of either sign: 0 in edition 2, the distance below 0 in edition 1
    && same (right_width 2 (whole 0)) (whole 0)
    && same (left_width 2 (whole 0)) (whole 0)
    && same (right_width 2 (neg (whole 0))) (whole 0)
    && same (left_width 2 (neg (whole 0))) (whole 0)
    && same (right_width 1 (whole 0)) (neg (decimal 25 2))
    && same (left_width 1 (whole 0)) (neg (decimal 25 2))

pub fin_values_lem : fin_values ≡ true
unfolding fin_values factors finned partly right_width left_width
fin_values_lem = refl

-- ---- the overhang at the window keeps the unwrapped difference: with the sun overhead and at azimuth −90, on a rooflight that faces
-- north, it is −270, whose cosine is below 0, and that of 90 is above

unfoldable pub overhang_values : Bool
overhang_values =
    is_factor (whole 1) (shading_factor 1 (square (whole 0) (whole 0)) (whole 90) (neg (whole 90)) (horizon []) (part Overhang ∷ []))
    && is_factor (whole 1) (shading_factor 2 (square (whole 0) (whole 0)) (whole 90) (neg (whole 90)) (horizon []) (part Overhang ∷ []))
    && lt (whole 1) (window_overhang_height (decimal 5 1) (whole 0) (tangent (to_radians (whole 90))) (cosine (to_radians (wrapped_once (neg (whole 270))))))

pub overhang_values_lem : overhang_values ≡ true
unfolding overhang_values factors window_overhang_height
overhang_values_lem = refl
