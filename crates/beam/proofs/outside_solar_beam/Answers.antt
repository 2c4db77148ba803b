use Rattle.beam.specs.Beam.{outside_solar_beam}
use Rattle.beam.proofs.outside_solar_beam.Goals as goal

pub returns : goal.returns
unfolding outside_solar_beam
returns c = rw (c.within_90-altitude_within.ensures, c.within_90-azimuth_within.ensures, c.wrap_once.ensures, c.transform_to_180.ensures)
