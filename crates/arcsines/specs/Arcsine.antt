-- Arcsine and arccosine, as the paper's stand-ins define them. Results are angles in radians.
use Rattle.std.specs.Prelude.{Bool, cond, ℕ, ◌+◌, ◌-◌, ◌*◌, ◌^◌, Float}
use Rattle.std.specs.Float.Ieee.{neg, lt, le}
use Rattle.doubles.specs.Arithmetic.{◌⊕◌, ◌⊖◌, ◌⊗◌, ◌⊘◌, decimal, whole}
use Rattle.doubles.specs.Functions.{clamp, pi}
use Rattle.doubles.specs.Series.{horner}
use Rattle.roots.specs.Root.{square_root}

-- h ← 1 + ((t·(2n−1)²)/(2n(2n+1)))·h
unfoldable pub arcsine_step : Float → ℕ → Float → Float
unfolding whole
arcsine_step t n h = whole 1 ⊕ ((t ⊗ whole ((2 * n - 1) ^ 2)) ⊘ whole (2 * n * (2 * n + 1))) ⊗ h

-- t = a·a, h = 1, n = 24 down to 1; a·h
unfoldable pub arcsine_series : Float → Float
unfolding horner arcsine_step whole
arcsine_series a = a ⊗ horner (arcsine_step (a ⊗ a)) 24 (whole 1)

unfoldable pub half_pi : Float
unfolding pi whole
half_pi = pi ⊘ whole 2

-- PI/2 − b
abbrev pub complement : Float → Float
complement b = half_pi ⊖ b

-- a ≤ 0.5
unfoldable pub up_to_half : Float → Bool
unfolding decimal
up_to_half a = le a (decimal 5 1)

-- root((1−a)/2): the sine of half the angle from arcsine a up to PI/2
unfoldable pub half_angle_sine : Float → Float
unfolding whole
half_angle_sine a = square_root ((whole 1 ⊖ a) ⊘ whole 2)

-- For a ≤ 0.5 the first; above: PI/2 − 2·the second.
unfoldable pub upward_by : Float → Float → Float → Float
unfolding up_to_half whole
upward_by a own half = cond (up_to_half a) own (complement (whole 2 ⊗ half))

-- For a ≤ 0.5 the series; above: PI/2 − 2·arcsine(root((1−a)/2)).
-- There (1−a)/2 is at most 0.25 and its root at most 0.5, so that the inner arcsine is the series again: `arcsine_inner` of proofs/Inner,
-- where `arcsine_above_half` has the line above in the paper's own words.
unfoldable pub arcsine_upward : Float → Float
unfolding upward_by half_angle_sine
arcsine_upward a = upward_by a (arcsine_series a) (arcsine_series (half_angle_sine a))

-- odd for a below 0; from 0 on as `upward` has it
unfoldable pub odd_extension : (Float → Float) → Float → Float
unfolding whole
odd_extension upward a = cond (lt a (whole 0)) (neg (upward (neg a))) (upward a)

-- Any number above 1 is taken as 1, any below −1 as −1. NaN gives NaN: `arcsine-nan` of proofs/Range.
unfoldable pub arcsine : Float → Float
unfolding odd_extension
arcsine a = odd_extension arcsine_upward (clamp a)

-- arccosine is PI/2 − arcsine: of any number above 1 it is +0, of any below −1 PI
unfoldable pub arccosine : Float → Float
arccosine a = complement (arcsine a)
