use Rattle.std.proofs.Common.{refl}
use lib.Ieee.{of_bits}
use Rattle.sun.specs.Hour.{solar_zenith}
use Rattle.sun.proofs.hour.init_solar_zenith_angle.Goals as goal

pub returns : goal.returns
unfolding solar_zenith of_bits
returns c = refl
