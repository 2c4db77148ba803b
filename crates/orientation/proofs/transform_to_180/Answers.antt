use lib.Ieee.{of_bits}
use mathlib.Core.Path.{refl}
use Rattle.orientation.specs.Orientation.{orientation180}
use Rattle.orientation.proofs.transform_to_180.Goals as goal

pub returns : goal.returns
unfolding orientation180 of_bits
returns c = refl
