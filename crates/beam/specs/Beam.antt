-- The beam test of ISO 52016-1, in the Rust's order of operations: whether the sun can shine on the surface's front at all. In degrees.
use Rattle.std.specs.Prelude.{Bool, not, ◌&&◌, ◌||◌, Float}
use Rattle.std.specs.Float.Ieee.{neg, le}
use Rattle.doubles.specs.Arithmetic.{◌⊖◌, whole}
use Rattle.orientation.specs.Orientation.{orientation180, wrapped_once}

-- from −90 to 90; NaN is not
unfoldable pub within90 : Float → Bool
unfolding whole neg
within90 x = le (neg (whole 90)) x && le x (whole 90)

-- the sun's azimuth is more than 90 from the surface's orientation, or its altitude from the tilt, or one is NaN
unfoldable pub outside_solar_beam : Float → Float → Float → Float → Bool
unfolding within90
outside_solar_beam tilt orientation altitude azimuth =
    not (within90 (wrapped_once (orientation180 orientation ⊖ azimuth))) || not (within90 (tilt ⊖ altitude))
