use mathlib.Core.Path.{refl}
use lib.Ieee.{of_bits}
use Rattle.arcsines.specs.Arcsine.{half_pi}
use Rattle.arcsines.proofs.acos_by.Goals as goal

pub returns : goal.returns
unfolding half_pi of_bits
returns c = refl
