use Rattle.sun.specs.Hour.{azimuth_numerator}
use Rattle.sun.specs.HourParts.{hour_from}
use Rattle.sun.proofs.hour.hour_from.Goals as goal

pub returns : goal.returns
unfolding hour_from azimuth_numerator
returns c = rw (c.azimuth_from-azimuth.ensures, c.altitude_terms-seen.ensures.0, c.altitude_terms-seen.ensures.1, c.to_degrees.ensures)
