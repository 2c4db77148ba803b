-- `surface_fine` meets its contract, by the definition.
use mathlib.Core.Path.{refl}
use lib.Ieee.{of_bits}
use Rattle.objects.specs.Surface.{surface_fine}
use Rattle.objects.proofs.surface.surface_fine.Goals as goal

pub returns : goal.returns
unfolding surface_fine of_bits
returns c = refl
