use Rattle.sun.specs.Hour.{azimuth_from}
use Rattle.sun.proofs.hour.azimuth_from.Goals as goal

pub returns : goal.returns
unfolding azimuth_from
returns c = rw (c.azimuth_branch.ensures, c.to_degrees.ensures)
