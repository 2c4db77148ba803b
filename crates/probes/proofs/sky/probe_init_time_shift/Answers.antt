use mir.Facts.{to_z-of_z}
use Rattle.probes.proofs.sky.probe_init_time_shift.Goals as goal

pub returns : goal.returns
returns c = rw (c.init_time_shift.ensures, to_z-of_z c.ranges.timezone)
