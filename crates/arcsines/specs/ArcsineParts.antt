-- The arcsine taken apart, so that the series of two can go at once: which argument's series it needs, and what it is by that series.
-- `arcsine_by_lem` of proofs/ArcsineParts puts it together again.
use Rattle.std.specs.Prelude.{cond, Float}
use Rattle.std.specs.Float.Ieee.{neg, lt}
use Rattle.doubles.specs.Arithmetic.{whole}
use Rattle.arcsines.specs.Arcsine.{up_to_half, half_pi, half_angle_sine, upward_by, odd_extension}
use Rattle.arcsines.specs.declared.Both.{Both}

abbrev pub both : Float → Float → Both
both x y = record { first = x; second = y }

unfoldable pub magnitude : Float → Float
unfolding whole
magnitude a = cond (lt a (whole 0)) (neg a) a

-- whose series gives the arcsine of a magnitude
unfoldable pub series_argument : Float → Float
unfolding up_to_half half_angle_sine
series_argument m = cond (up_to_half m) m (half_angle_sine m)

-- the arcsine by that series; beyond ±1 that of the end, ±PI/2
unfoldable pub arcsine_by : Float → Float → Float
unfolding odd_extension upward_by half_pi whole neg
arcsine_by a series = cond (lt (whole 1) a) half_pi (cond (lt a (neg (whole 1))) (neg half_pi) (odd_extension (λ m. upward_by m series series) a))
