use mathlib.Core.Path.{refl}
use lib.Ieee.{of_bits}
use Rattle.irradiance.specs.Sky.{brightness_of}
use Rattle.irradiance.proofs.sky.brightness_of.Goals as goal

pub returns : goal.returns
unfolding brightness_of of_bits
returns c = refl
