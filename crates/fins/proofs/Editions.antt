-- Left fins agree between the editions where the difference is above 0 and at most 180. Assumes nothing.
use mathlib.Core.Path.{◌≡◌}
use lib.Ieee.{Float, neg, lt, le}
use lib.Ieee.Bits.{is_true}
use Rattle.doubles.specs.Arithmetic.{whole}
use Rattle.doubles.specs.Order.{◌≼◌, ◌≺◌}
use Rattle.doubles.proofs.Order.{le_trans, lt→le, not_below}
use Rattle.orientation.specs.Orientation.{wrapped_once}
use Rattle.fins.specs.Fins.{left_fin1, left_fin2, fins_of, LeftFinsAgree}

below_zero : neg (whole 180) ≼ whole 0
unfolding whole neg le
below_zero = record { holds = tt }

module _ {difference : Float} (above : whole 0 ≺ difference) (below : difference ≼ whole 180) where
  -- what is above 0 and at most 180 is not wrapped
  not_wrapped : wrapped_once difference ≡ difference
  unfolding wrapped_once whole neg
  not_wrapped = rw (not_below below, not_below (le_trans below_zero (lt→le above)))

pub left_fins_agree : LeftFinsAgree
unfolding fins_of left_fin1 left_fin2 whole
left_fins_agree difference depth distance above below = rw (not_wrapped above below, not_below (lt→le above), is_true (lt (whole 0) difference) above.holds)
