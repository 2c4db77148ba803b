use mathlib.Core.Path.{refl}
use lib.Ieee.{of_bits, neg}
use Rattle.shading.specs.Call.{sun_fine}
use Rattle.shading.proofs.step.sun_fine.Goals as goal

pub returns : goal.returns
unfolding sun_fine of_bits neg
returns c = refl
