-- `south_wall` meets its contract.
use mathlib.Core.Path.{refl}
use lib.Ieee.{of_bits}
use Rattle.doubles.specs.Arithmetic.{whole}
use Rattle.edges.specs.Shades.{south_wall}
use Rattle.edges.proofs.shades.south_wall.Goals as goal

pub returns : goal.returns
unfolding south_wall of_bits whole
returns c = refl
