use mathlib.Core.Path.{refl}
use lib.Ieee.{of_bits}
use Rattle.days.specs.Day.{orbit_deviation}
use Rattle.days.proofs.init_earth_orbit_deviation.Goals as goal

pub returns : goal.returns
unfolding orbit_deviation of_bits
returns c = refl
