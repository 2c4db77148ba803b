-- `reading_fine` meets its contract, by the definition.
use mathlib.Core.Path.{refl}
use lib.Ieee.{of_bits}
use Rattle.weather.specs.Weather.{reading_fine}
use Rattle.weather.proofs.reading_fine.Goals as goal

pub returns : goal.returns
unfolding reading_fine of_bits
returns c = refl
