-- `irradiance_kept` meets its contract.
use mathlib.Core.Path.{refl}
use Rattle.steps.specs.Kept.{irradiance_kept}
use Rattle.steps.proofs.kept.irradiance_kept.Goals as goal

pub returns : goal.returns
unfolding irradiance_kept
returns c = rw (c.calculated_direct_diffuse_total_irradiance.ensures, c.sky_of-sky.ensures) refl
