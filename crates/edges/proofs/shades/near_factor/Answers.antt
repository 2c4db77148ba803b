-- `near_factor` meets its contract.
use lib.Ieee.{of_bits}
use Rattle.doubles.specs.Arithmetic.{whole, decimal}
use Rattle.edges.specs.Shades.{factor_at, near_obstacle}
use Rattle.edges.proofs.shades.near_factor.Goals as goal

pub returns : goal.returns
unfolding factor_at near_obstacle of_bits whole decimal
returns c = rw (c.listed_factor.ensures, c.south_wall.ensures)
