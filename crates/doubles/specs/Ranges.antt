-- Ranges of doubles. They compare as numbers: −0.0 counts as 0, and NaN is in no range.
use Rattle.std.specs.Prelude.{Bool, ◌&&◌, Float}
use Rattle.std.specs.Float.Ieee.{lt, le}
use Rattle.doubles.specs.Arithmetic.{whole}

-- from lowest to highest
unfoldable pub within : Float → Float → Float → Bool
within lowest highest x = le lowest x && le x highest

-- above 0 and up to highest
unfoldable pub above_zero : Float → Float → Bool
unfolding whole
above_zero highest x = lt (whole 0) x && le x highest
