use lib.Ieee.{of_bits}
use mathlib.Core.Path.{refl}
use Rattle.irradiance.specs.Parts.{ground_reflection}
use Rattle.irradiance.proofs.parts.ground_reflection_irradiance.Goals as goal

pub returns : goal.returns
unfolding ground_reflection of_bits
returns c = refl
