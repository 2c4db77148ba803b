use lib.Ieee.{of_bits}
use Rattle.sun.specs.HourParts.{hour_angles_by}
use Rattle.sun.proofs.hour.hour_angles_by.Goals as goal

pub returns : goal.returns
unfolding hour_angles_by of_bits
returns c = rw (c.sin_cos_of_degrees-supplement.ensures, c.sin_cos_of_degrees-hour_angle.ensures, c.init_solar_hour_angle-angle.ensures, c.init_solar_time.ensures)
