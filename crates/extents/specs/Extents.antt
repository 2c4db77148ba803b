-- The shade extents of ISO 52016-1 Annex F, in the Rust's order of operations: the height that one object shades; fins are in
-- `fins`. Lengths are in metres. `tan_altitude` is the tangent of the sun's altitude, and `cos_difference` the cosine of its azimuth
-- less the surface's orientation from south, not wrapped.
use Rattle.std.specs.Prelude.{cond, Float}
use Rattle.std.specs.Float.Ieee.{lt}
use Rattle.doubles.specs.Arithmetic.{◌⊕◌, ◌⊖◌, ◌⊗◌, ◌⊘◌, whole}
use Rattle.doubles.specs.Functions.{float_max}

-- the height that an obstacle shades, distant or near
unfoldable pub obstacle_height : Float → Float → Float → Float → Float
unfolding whole
obstacle_height base height distance tan_altitude =
    let h = height ⊖ base ⊖ distance ⊗ tan_altitude in
    cond (lt h (whole 0)) (whole 0) h

-- the height that a distant overhang with its lower edge at `lowest` shades
unfoldable pub overhang_height : Float → Float → Float → Float → Float → Float
unfolding whole
overhang_height surface base lowest distance tan_altitude =
    float_max (whole 0) (surface ⊕ base ⊖ lowest ⊕ distance ⊗ tan_altitude)

-- the height that an overhang at the window shades
unfoldable pub window_overhang_height : Float → Float → Float → Float → Float
window_overhang_height depth distance tan_altitude cos_difference = depth ⊗ tan_altitude ⊘ cos_difference ⊖ distance
