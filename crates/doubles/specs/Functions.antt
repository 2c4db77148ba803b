-- The functions on doubles that the engine's formulas use beside the four operations.
use Rattle.std.specs.Prelude.{suc, ◌+◌, ◌-◌, ◌/◌, ◌^◌, true, false, cond, List, [], ◌∷◌, pos, negsuc, is_nan, Float}
use Rattle.std.specs.Float.{nan, inf, fin}
use Rattle.std.specs.Float.Ieee.{neg, lt}
use Rattle.doubles.specs.Arithmetic.{◌⊗◌, ◌⊘◌, whole, bits}

-- the smaller of two, and the second where the comparison fails
unfoldable pub min_of2 : Float → Float → Float
min_of2 first second = cond (lt first second) first second

-- the larger of two, and the second where the comparison fails
unfoldable pub max_of2 : Float → Float → Float
max_of2 first second = cond (lt second first) first second

-- the float methods `min` and `max`: they drop a NaN, and are otherwise as the two above
unfoldable pub float_min : Float → Float → Float
unfolding min_of2
float_min x y = cond (is_nan x) y (cond (is_nan y) x (min_of2 x y))

unfoldable pub float_max : Float → Float → Float
unfolding max_of2
float_max x y = cond (is_nan x) y (cond (is_nan y) x (max_of2 x y))

-- clamped to −1..1: any number below −1 is taken as −1, any above 1 as 1, the infinities too; NaN stays NaN
unfoldable pub clamp : Float → Float
unfolding whole neg
clamp x = cond (lt x (neg (whole 1))) (neg (whole 1)) (cond (lt (whole 1) x) (whole 1) x)

-- The largest whole number that is not above x. A zero keeps its sign; −0.5 gives −1, and 0.5 gives +0.
-- A double with no fraction is itself; any other is m / 2 ^ suc k, whose quotient is cut off, or for a negative one taken up.
unfoldable pub floor_of : Float → Float
unfolding whole neg
floor_of nan = nan
floor_of (inf s) = inf s
floor_of (fin s m (pos k)) = fin s m (pos k)
floor_of (fin false m (negsuc k)) = whole (m / 2 ^ suc k)
floor_of (fin true m (negsuc k)) = neg (whole ((m + (2 ^ suc k - 1)) / 2 ^ suc k))

-- power 3: (a·a)·a
unfoldable pub cube_of : Float → Float
cube_of a = a ⊗ a ⊗ a

-- the double of PI
unfoldable pub pi : Float
unfolding bits
pi = bits 0x400921FB54442D18

-- degrees to radians multiplies by PI / 180, back by 180 / PI
unfoldable pub to_radians : Float → Float
unfolding pi whole
to_radians degrees = degrees ⊗ (pi ⊘ whole 180)

unfoldable pub to_degrees : Float → Float
unfolding pi whole
to_degrees radians = radians ⊗ (whole 180 ⊘ pi)

-- The largest and the smallest of a first value and a list, as a loop over the list keeps them.
unfoldable pub largest_of : Float → List Float → Float
unfolding max_of2
largest_of first [] = first
largest_of first (x ∷ xs) = largest_of (max_of2 first x) xs

unfoldable pub smallest_of : Float → List Float → Float
unfolding min_of2
smallest_of first [] = first
smallest_of first (x ∷ xs) = smallest_of (min_of2 first x) xs
