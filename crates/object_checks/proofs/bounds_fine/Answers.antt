-- `bounds_fine` meets its contract, by the definition.
use mathlib.Core.Path.{refl}
use lib.Ieee.{of_bits}
use Rattle.object_checks.specs.Checks.{bounds_fine}
use Rattle.object_checks.proofs.bounds_fine.Goals as goal

pub returns : goal.returns
unfolding bounds_fine of_bits
returns c = refl
