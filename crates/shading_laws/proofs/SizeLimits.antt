-- Where a law of sizes would be false if it asked for less, computed by the checker: in each case one object is changed in one measure,
-- and the factor rises. The surface is upright and faces south, 4 m high and 1 m wide, and its base is on the ground, but where it is said.
use Rattle.std.specs.Prelude.{Err, Float, Ok, Result}
use Rattle.objects.specs.declared.answers.Refusal.{Refusal}
use mathlib.Core.Path.{◌≡◌, refl}
use mathlib.Core.Bool.{Bool, true, false, ◌&&◌}
use mathlib.Core.List.{List, [], ◌∷◌}
use Prim.Native.Nat.{ℕ}
use lib.Ieee.{Float, inf, add, sub, mul, div, neg, lt, le, eq, is_nan, to_unsigned, of_int, of_bits}
use Rattle.doubles.specs.Arithmetic.{whole, decimal, bits}
use Rattle.doubles.specs.Functions.{clamp, floor_of, to_radians, float_max, float_min}
use Rattle.angles.specs.Sine.{is_angle, quarter_turns, quadrant, remainder, sine_sum, cosine_sum, sine_series, cosine_series, sine_at, cosine_at, sine, cosine, tangent}
use Rattle.orientation.specs.Orientation.{orientation180, wrapped_once}
use Rattle.extents.specs.Extents.{obstacle_height, overhang_height, window_overhang_height}
use Rattle.fins.specs.Fins.{fin_width, right_fin1, left_fin1, fins_of}
use Rattle.objects.specs.declared.surface.Surface.{Surface}
use Rattle.objects.specs.declared.sectors.ShadingObject.{ShadingObject}
use Rattle.objects.specs.declared.sectors.ShadingObjectType.TheVariants as distant
use Rattle.objects.specs.declared.sectors.ShadingSegment.{ShadingSegment}
use Rattle.objects.specs.declared.window.WindowShadingObject.{WindowShadingObject}
use Rattle.objects.specs.declared.window.WindowShadingType.{WindowShadingType}
use Rattle.objects.specs.declared.window.WindowShadingType.TheVariants.{Obstacle, Overhang, SideFinRight}
use Rattle.objects.specs.Objects.{counted}
use Rattle.beam.specs.Beam.{outside_solar_beam}
use Rattle.segments.specs.Segments.{segment_of}
use Rattle.shading.specs.Factor.{sun_on, reduction_factor, has_reveal, factor_in, shading_factor}

-- ---- the scenes

unfoldable pub facing : Float → Float → Float → Surface
facing tilt orientation height = record { tilt = tilt; orientation = orientation; base_height = whole 0; height = height; width = whole 1 }

unfoldable pub wall : Float → Float → ShadingObject
wall height distance = record { object_type = distant.Obstacle; height = height; distance = distance }

unfoldable pub eaves : Float → Float → ShadingObject
eaves height distance = record { object_type = distant.Overhang; height = height; distance = distance }

unfoldable pub part : WindowShadingType → Float → Float → WindowShadingObject
part kind size transparency = record { object_type = kind; size = size; distance = whole 0; transparency = transparency }

-- one sector all round, with one object or none
unfoldable pub around : ℕ → List ShadingObject → List ShadingSegment
around count objects = record { start360 = whole 0; end360 = whole 360; count = count; shading_objects = objects } ∷ []

-- the second factor is above the first
unfoldable pub raised : Result Float Refusal → Result Float Refusal → Bool
raised (Ok x) (Ok y) = lt x y
raised (Ok x) (Err r) = false
raised (Err r) y = false

-- ---- the cases

-- a distant object at altitude 135, whose tangent is below 0; no call accepts that altitude
unfoldable pub behind : ShadingObject → Result Float Refusal
behind o = shading_factor 1 (facing (whole 90) (whole 180) (whole 4)) (whole 135) (whole 0) (around 1 (o ∷ [])) []

-- and at altitude 0
unfoldable pub level : ShadingObject → Result Float Refusal
level o = shading_factor 1 (facing (whole 90) (whole 180) (whole 4)) (whole 0) (whole 0) (around 1 (o ∷ [])) []

-- a near obstacle under eaves that shade half of a surface 3 m high, at altitude 0
unfoldable pub under : Float → Float → Result Float Refusal
under transparency size =
    shading_factor 1 (facing (whole 90) (whole 180) (whole 3)) (whole 0) (whole 0) (around 1 (eaves (decimal 15 1) (whole 1) ∷ [])) (part Obstacle size transparency ∷ [])

-- on a rooflight to the north, the sun in the east: the difference is −270, whose cosine is below 0
unfoldable pub eastern : WindowShadingObject → Result Float Refusal
eastern o = shading_factor 1 (facing (whole 0) (whole 0) (whole 1)) (whole 45) (neg (whole 90)) (around 0 []) (o ∷ [])

-- the sun 30 degrees before the surface, where the tangent of edition 1's right fin is below 0
unfoldable pub aside : WindowShadingObject → Result Float Refusal
aside o = shading_factor 1 (facing (whole 90) (whole 180) (whole 1)) (whole 0) (neg (whole 30)) (around 0 []) (o ∷ [])

unfoldable pub raised_values : Bool
raised_values =
    -- `nearer_obstacle` with the tangent below 0: from 4 m to 1 m
    raised (behind (wall (whole 1) (whole 4))) (behind (wall (whole 1) (whole 1)))
    -- `farther_overhang` likewise: from 1 m to 4 m
    && raised (behind (eaves (whole 2) (whole 1))) (behind (eaves (whole 2) (whole 4)))
    -- and where what it shades is no number: from 1 m to an infinite distance at altitude 0
    && raised (level (eaves (whole 2) (whole 1))) (level (eaves (whole 2) (inf false)))
    -- `taller` near obstacle that lets the least through that a double can say, by one place of its last digit
    && raised (under (bits 1) (bits 0x3FF7FFFFFFFFFFFF)) (under (bits 1) (bits 0x3FF8000000000000))
    -- and one that lets half through
    && raised (under (decimal 5 1) (bits 0x3FF7FFFFFFFFFFFF)) (under (decimal 5 1) (bits 0x3FF8000000000000))
    -- `deeper` overhang at the window from a depth below 0, with the cosine below 0
    && raised (eastern (part Overhang (neg (whole 2)) (whole 0))) (eastern (part Overhang (whole 0) (whole 0)))
    -- `deeper` fin from a depth below 0, with the tangent below 0
    && raised (aside (part SideFinRight (neg (whole 1)) (whole 0))) (aside (part SideFinRight (whole 0) (whole 0)))

pub raised_values_lem : raised_values ≡ true
unfolding raised_values raised behind level under eastern aside facing wall eaves part around
    add sub mul div neg lt le eq is_nan to_unsigned of_int of_bits whole decimal bits floor_of to_radians float_max float_min
    sine cosine tangent is_angle quarter_turns quadrant remainder sine_series sine_sum sine_at cosine_series cosine_sum cosine_at clamp
    orientation180 wrapped_once fin_width right_fin1 left_fin1 fins_of obstacle_height overhang_height window_overhang_height
    counted outside_solar_beam segment_of sun_on reduction_factor has_reveal factor_in shading_factor
raised_values_lem = refl
