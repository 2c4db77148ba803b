-- The step on the way to a sine and a cosine: an angle is so many quarter turns and a rest.
use Rattle.std.specs.Prelude.{cond, Float, Option, Some, None}
use Rattle.angles.specs.Sine.{is_angle, quarter_turns, quadrant, remainder}
use Rattle.angles.specs.declared.Reduced.{Reduced}

-- k mod 4 and r, and nothing where a is no angle
unfoldable pub reduction : Float → Option Reduced
reduction a = let k = quarter_turns a in cond (is_angle a) (Some (record { quadrant = quadrant k; rest = remainder a k })) None
