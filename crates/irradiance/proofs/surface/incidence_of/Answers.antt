use Rattle.arcsines.specs.Arcsine.{arccosine}
use Rattle.irradiance.specs.Surface.{incidence_angle, incidence_cosine, incidence_of}
use Rattle.irradiance.proofs.surface.incidence_of.Goals as goal

pub returns : goal.returns
unfolding incidence_of incidence_angle incidence_cosine arccosine
returns c = rw (c.incidence_by.ensures, c.incidence_cosine-cos_incidence.ensures, c.asin.ensures, c.incidence_argument.ensures)
