-- The specification's values at the edges: those it asks to be proved, all together, computed by the checker from the definitions.
-- Doubles are compared by their bits, so that −0.0 is not 0.
use Rattle.std.specs.Prelude.{Err, Float, Ok, Result}
use Rattle.objects.specs.declared.answers.Refusal.{Refusal}
use mathlib.Core.Path.{◌≡◌, refl}
use mathlib.Core.Bool.{Bool, true, false, ◌&&◌}
use mathlib.Core.List.{List, [], ◌∷◌}
use lib.Dec.{eqb}
use lib.IntN.{pos}
use lib.ListN.{length}
use lib.Ieee.{Float, nan, binary64, add, sub, mul, div, neg, lt, le, eq, is_nan, to_unsigned, of_int, to_bits}
use Rattle.doubles.specs.Arithmetic.{whole, decimal}
use Rattle.doubles.specs.Functions.{clamp, cube_of, floor_of, to_radians, float_max}
use Rattle.angles.specs.Sine.{is_angle, quarter_turns, quadrant, remainder, sine_sum, cosine_sum, sine_series, cosine_series, sine_at, cosine_at, sine, cosine, tangent}
use Rattle.days.specs.Day.{equation_of_time_on}
use Rattle.sun.specs.Hour.{time_shift_of, hour_angle_of}
use Rattle.orientation.specs.Orientation.{orientation180, wrapped_once}
use Rattle.irradiance.specs.Table.{table_row}
use Rattle.irradiance.specs.Sky.{clearness}
use Rattle.objects.specs.declared.surface.Surface.{Surface}
use Rattle.objects.specs.declared.sectors.ShadingObject.{ShadingObject}
use Rattle.objects.specs.declared.sectors.ShadingObjectType.TheVariants as distant
use Rattle.objects.specs.declared.sectors.ShadingSegment.{ShadingSegment}
use Rattle.objects.specs.declared.window.WindowShadingObject.{WindowShadingObject}
use Rattle.objects.specs.declared.window.WindowShadingType.TheVariants as near
use Rattle.objects.specs.Objects.{counted}
use Rattle.beam.specs.Beam.{outside_solar_beam}
use Rattle.segments.specs.Segments.{segment_of}
use Rattle.shading.specs.Factor.{sun_on, reduction_factor, has_reveal, factor_in, shading_factor}

-- ---- the surface and what shades it

-- base 0, height 2, width 1; upright, facing south
unfoldable pub surface : Surface
surface = record { tilt = whole 90; orientation = whole 180; base_height = whole 0; height = whole 2; width = whole 1 }

-- one sector, all around, with the given objects
unfoldable pub horizon : List ShadingObject → List ShadingSegment
horizon objects = record { start360 = whole 0; end360 = whole 360; count = length objects; shading_objects = objects } ∷ []

-- at altitude 0 the distance does not count
unfoldable pub distant_obstacle : ShadingObject
distant_obstacle = record { object_type = distant.Obstacle; height = whole 1; distance = whole 10 }

unfoldable pub distant_overhang : ShadingObject
distant_overhang = record { object_type = distant.Overhang; height = decimal 15 1; distance = whole 10 }

unfoldable pub near_obstacle : WindowShadingObject
near_obstacle = record { object_type = near.Obstacle; size = whole 1; distance = whole 3; transparency = decimal 5 1 }

unfoldable pub reveal : WindowShadingObject
reveal = record { object_type = near.Reveal; size = decimal 2 1; distance = decimal 1 1; transparency = whole 0 }

-- ---- the values

unfoldable pub same : Float → Float → Bool
same x y = eqb (to_bits binary64 x) (to_bits binary64 y)

unfoldable pub is_factor : Float → Result Float Refusal → Bool
is_factor x (Ok f) = same f x
is_factor x (Err r) = false

-- the factor at altitude 0, the sun in the south
unfoldable pub inside : List ShadingObject → List WindowShadingObject → Result Float Refusal
inside objects window = shading_factor 1 surface (whole 0) (whole 0) (horizon objects) window

-- and the sun in the north
unfoldable pub outside : List ShadingObject → List WindowShadingObject → Result Float Refusal
outside objects window = shading_factor 1 surface (whole 0) (whole 180) (horizon objects) window

unfoldable pub edge_values : Bool
edge_values =
    -- equation of time n = 359 gives 0
    same (equation_of_time_on 359) (whole 0)
    -- solar time 0.5 gives hour angle 180, 0 gives −172.5, 24.5 gives −180
    && same (hour_angle_of (decimal 5 1)) (whole 180)
    && same (hour_angle_of (whole 0)) (neg (decimal 1725 1))
    && same (hour_angle_of (decimal 245 1)) (neg (whole 180))
    -- longitude 0, timezone 0 gives shift 0; longitude −0.5 a positive shift
    && same (time_shift_of (pos 0) (whole 0)) (whole 0)
    && lt (whole 0) (time_shift_of (pos 0) (neg (decimal 5 1)))
    -- diffuse 100, beam 100, altitude 0: clearness 2, row 4
    && same (clearness (whole 100) (whole 100) (whole 0)) (whole 2)
    && eqb (table_row (clearness (whole 100) (whole 100) (whole 0))) 4
    -- clearness 1.065 row 1
    && eqb (table_row (decimal 1065 3)) 1
    -- clearness 999 row 7, NaN row 7
    && eqb (table_row (whole 999)) 7
    && eqb (table_row nan) 7
    -- orientation 0 becomes 180, 360 becomes −180
    && same (orientation180 (whole 0)) (whole 180)
    && same (orientation180 (whole 360)) (neg (whole 180))
    -- with altitude 0, inside the beam, base 0, height 2, width 1: distant obstacle 1 m gives 0.5
    && is_factor (decimal 5 1) (inside (distant_obstacle ∷ []) [])
    -- near obstacle 1 m, transparency 0.5 gives 0.75
    && is_factor (decimal 75 2) (inside [] (near_obstacle ∷ []))
    -- both 0.5
    && is_factor (decimal 5 1) (inside (distant_obstacle ∷ []) (near_obstacle ∷ []))
    -- distant overhang at 1.5 m 0.75
    && is_factor (decimal 75 2) (inside (distant_overhang ∷ []) [])
    -- that and the near one 0.5
    && is_factor (decimal 5 1) (inside (distant_overhang ∷ []) (near_obstacle ∷ []))
    -- a reveal outside the beam, 1
    && is_factor (whole 1) (outside [] (reveal ∷ []))

pub edge_values_lem : edge_values ≡ true
unfolding edge_values same is_factor inside outside surface horizon distant_obstacle distant_overhang near_obstacle reveal
    add sub mul div neg lt le eq is_nan to_unsigned of_int to_bits whole decimal cube_of floor_of to_radians float_max
    sine cosine tangent is_angle quarter_turns quadrant remainder sine_series sine_sum sine_at cosine_series cosine_sum cosine_at clamp
    equation_of_time_on time_shift_of hour_angle_of orientation180 wrapped_once clearness table_row
    counted outside_solar_beam segment_of sun_on reduction_factor has_reveal factor_in shading_factor
edge_values_lem = refl
