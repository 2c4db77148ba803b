use lib.Ieee.{of_bits}
use Rattle.irradiance.specs.Sky.{brightness_in, cut_brightness}
use Rattle.irradiance.proofs.sky.circumsolar_brightness.Goals as goal

pub returns-then-f1 : goal.returns-then-f1
unfolding cut_brightness brightness_in of_bits
returns-then-f1 c = rw (← c.brightness_of-f1.ensures, c.if-f1.true)

pub returns-else-f1 : goal.returns-else-f1
unfolding cut_brightness brightness_in of_bits
returns-else-f1 c = rw (← c.brightness_of-f1.ensures, c.if-f1.false)
