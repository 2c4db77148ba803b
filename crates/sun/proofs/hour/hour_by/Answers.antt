use Rattle.sun.specs.HourParts.{hour_by}
use Rattle.sun.proofs.hour.hour_by.Goals as goal

pub returns : goal.returns
unfolding hour_by
returns c = rw (c.hour_from.ensures, c.asin.ensures, c.altitude_sine-sine.ensures, c.hour_angles_by-hour_angles.ensures)
