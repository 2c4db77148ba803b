use mathlib.Core.Path.{refl}
use Rattle.irradiance.specs.Surface.{incidence_argument}
use Rattle.irradiance.proofs.surface.incidence_argument.Goals as goal

pub returns : goal.returns
unfolding incidence_argument
returns c = refl
