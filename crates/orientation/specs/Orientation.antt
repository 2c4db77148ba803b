-- Orientations from north, 0 to 360, and from south, eastwards positive, and the shift of an angle by 360. In degrees.
use Rattle.std.specs.Prelude.{cond, Float}
use Rattle.std.specs.Float.Ieee.{neg, lt}
use Rattle.doubles.specs.Arithmetic.{◌⊕◌, ◌⊖◌, whole}

-- from north to south: 0 becomes 180, 360 becomes −180
unfoldable pub orientation180 : Float → Float
unfolding whole
orientation180 orientation = whole 180 ⊖ orientation

-- shifted by 360 once, strictly beyond ±180: −540 to 540 comes to −180 to 180, both ends included, and what is beyond stays beyond
unfoldable pub wrapped_once : Float → Float
unfolding whole neg
wrapped_once angle = cond (lt (whole 180) angle) (angle ⊖ whole 360) (cond (lt angle (neg (whole 180))) (angle ⊕ whole 360) angle)
