use mathlib.Core.Path.{refl}
use Rattle.irradiance.specs.Sky.{sky_brightness}
use Rattle.irradiance.proofs.sky.init_dimensionless_sky_brightness_parameter.Goals as goal

pub returns : goal.returns
unfolding sky_brightness
returns c = refl
