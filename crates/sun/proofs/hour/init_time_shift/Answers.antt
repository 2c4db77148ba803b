use Rattle.std.proofs.Common.{to_z-of_z}
use lib.Ieee.{of_bits}
use Rattle.sun.specs.Hour.{time_shift_of}
use Rattle.sun.proofs.hour.init_time_shift.Goals as goal

pub returns : goal.returns
unfolding time_shift_of of_bits
returns c = rw (c.nearest_i64_to_f64.ensures, to_z-of_z c.ranges.timezone)
