use Rattle.std.proofs.Common.{refl}
use Rattle.sun.specs.Hour.{altitude_sine}
use Rattle.sun.proofs.hour.altitude_sine.Goals as goal

pub returns : goal.returns
unfolding altitude_sine
returns c = refl
