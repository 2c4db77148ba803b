use Rattle.irradiance.specs.Sky.{brightness, horizontal_brightness}
use Rattle.irradiance.proofs.sky.init_f2_horizontal_brightness_coefficient.Goals as goal

pub returns : goal.returns
unfolding horizontal_brightness brightness
returns c = rw (c.horizontal_brightness.ensures, c.coefficients_at-row.ensures)
