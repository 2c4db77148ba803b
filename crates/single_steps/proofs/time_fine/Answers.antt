-- `time_fine` meets its contract.
use mathlib.Core.Path.{refl}
use lib.Ieee.{of_bits}
use Rattle.single_steps.specs.Single.{time_fine}
use Rattle.single_steps.proofs.time_fine.Goals as goal

pub returns : goal.returns
unfolding time_fine of_bits
returns c = rw (c.current_hour.ensures, c.hours_in_year.ensures) refl
