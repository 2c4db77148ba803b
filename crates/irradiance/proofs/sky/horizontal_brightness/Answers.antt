use Rattle.irradiance.specs.Sky.{brightness_in}
use Rattle.irradiance.proofs.sky.horizontal_brightness.Goals as goal

pub returns : goal.returns
unfolding brightness_in
returns c = c.brightness_of.ensures
