-- `distant_factor` meets its contract.
use lib.Ieee.{of_bits}
use Rattle.doubles.specs.Arithmetic.{whole}
use Rattle.edges.specs.Shades.{horizon_with}
use Rattle.edges.proofs.shades.distant_factor.Goals as goal

pub slice_bounds-store_word-end : goal.slice_bounds-store_word-end
slice_bounds-store_word-end c = c.whole_horizon-sectors.ensures.1

pub returns : goal.returns
unfolding horizon_with of_bits whole
returns c = rw (c.factor_near.ensures, c.store_double-2.ensures, c.store_double.ensures, c.store_word-2.ensures, c.store_word.ensures, c.whole_horizon-sectors.ensures.0)
