-- `factor_at` meets its contract.
use mathlib.Core.Path.{refl}
use lib.Ieee.{of_bits}
use Rattle.doubles.specs.Arithmetic.{whole}
use Rattle.edges.specs.Shades.{factor_at}
use Rattle.edges.proofs.shades.factor_at.Goals as goal

pub returns : goal.returns
unfolding factor_at of_bits whole
returns c = rw (c.factor_call.ensures, c.south_wall.ensures) refl
