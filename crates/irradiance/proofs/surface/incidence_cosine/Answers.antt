use Rattle.irradiance.specs.Surface.{incidence_cosine}
use Rattle.irradiance.proofs.surface.incidence_cosine.Goals as goal

pub returns : goal.returns
unfolding incidence_cosine
returns c = rw (c.cos.ensures, c.to_radians.ensures, c.to_degrees-degrees.ensures, c.acos_by.ensures)
