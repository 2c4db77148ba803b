-- `factor_near` meets its contract.
use lib.Ieee.{of_bits}
use Rattle.doubles.specs.Arithmetic.{whole, decimal}
use Rattle.edges.specs.Shades.{near_obstacle, window_with}
use Rattle.edges.proofs.shades.factor_near.Goals as goal

pub slice_bounds-factor_at-end : goal.slice_bounds-factor_at-end
slice_bounds-factor_at-end c = c.one_obstacle-window.ensures.1

pub returns-then-near : goal.returns-then-near
unfolding window_with near_obstacle of_bits whole decimal
returns-then-near c = rw (c.factor_at.ensures, c.one_obstacle-window.ensures.0, c.if-near.true)

pub returns : goal.returns
unfolding window_with of_bits whole
returns c = rw (c.factor_at-2.ensures, c.if-near.false)
