use Rattle.irradiance.specs.Surface.{incidence_by}
use Rattle.irradiance.proofs.surface.incidence_by.Goals as goal

pub returns : goal.returns
unfolding incidence_by
returns c = rw c.a_over_b.ensures
