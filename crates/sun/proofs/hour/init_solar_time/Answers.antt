use Rattle.std.proofs.Common.{refl}
use lib.Ieee.{of_bits}
use Rattle.sun.specs.Hour.{solar_time}
use Rattle.sun.proofs.hour.init_solar_time.Goals as goal

pub returns : goal.returns
unfolding solar_time of_bits
returns c = refl
