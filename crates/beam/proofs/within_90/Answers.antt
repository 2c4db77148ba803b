use mathlib.Core.Path.{refl}
use lib.Ieee.{of_bits, neg}
use Rattle.beam.specs.Beam.{within90}
use Rattle.beam.proofs.within_90.Goals as goal

pub returns : goal.returns
unfolding within90 of_bits neg
returns c = refl
