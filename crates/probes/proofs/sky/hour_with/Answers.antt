use Rattle.probes.specs.Hours.{hour_with}
use Rattle.probes.proofs.sky.hour_with.Goals as goal

pub returns : goal.returns
unfolding hour_with
returns c = rw (c.calculated_direct_diffuse_total_irradiance-parts.ensures, c.sky_of-sky.ensures, c.incidence_of-incidence.ensures, c.hour_by-hour.ensures)
