use Rattle.irradiance.specs.Sky.{brightness, circumsolar_brightness}
use Rattle.irradiance.proofs.sky.init_f1_circumsolar_brightness_coefficient.Goals as goal

pub returns : goal.returns
unfolding circumsolar_brightness brightness
returns c = rw (c.circumsolar_brightness.ensures, c.coefficients_at-row.ensures)
