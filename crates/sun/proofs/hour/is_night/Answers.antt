use Rattle.std.proofs.Common.{refl}
use lib.Ieee.{of_bits}
use Rattle.sun.specs.Hour.{is_night}
use Rattle.sun.proofs.hour.is_night.Goals as goal

pub returns : goal.returns
unfolding is_night of_bits
returns c = refl
