-- `run_fine` meets its contract, by the definition.
use Rattle.std.proofs.Common.{refl}
use lib.Ieee.{of_bits}
use Rattle.simulation_time.specs.Steps.{run_fine}
use Rattle.simulation_time.proofs.run.run_fine.Goals as goal

pub returns : goal.returns
unfolding run_fine of_bits
returns c = refl
