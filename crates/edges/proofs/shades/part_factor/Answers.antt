-- `part_factor` meets its contract.
use Rattle.edges.specs.Shades.{one_part}
use Rattle.edges.proofs.shades.part_factor.Goals as goal

pub slice_bounds-factor_at-end : goal.slice_bounds-factor_at-end
slice_bounds-factor_at-end c = c.whole_horizon-sectors.ensures.1

pub returns : goal.returns
unfolding one_part
returns c = rw (c.factor_at.ensures, c.store_double.ensures, c.store_word.ensures, c.whole_horizon-sectors.ensures.0)
