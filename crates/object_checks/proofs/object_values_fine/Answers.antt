-- `object_values_fine` meets its contract, by the definition.
use mathlib.Core.Path.{refl}
use lib.Ieee.{of_bits}
use Rattle.object_checks.specs.Checks.{object_values_fine}
use Rattle.object_checks.proofs.object_values_fine.Goals as goal

pub returns : goal.returns
unfolding object_values_fine of_bits
returns c = refl
