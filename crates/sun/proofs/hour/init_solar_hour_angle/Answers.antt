use lib.Ieee.{of_bits}
use Rattle.sun.specs.Hour.{hour_angle_of}
use Rattle.sun.proofs.hour.init_solar_hour_angle.Goals as goal

pub returns : goal.returns
unfolding hour_angle_of of_bits
returns c = c.wrap_once.ensures
