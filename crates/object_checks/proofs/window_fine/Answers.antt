-- `window_fine` meets its contract.
use Rattle.std.proofs.Common.{rules}
use Rattle.object_checks.specs.Checks.{window_fine, window_record_fine}
use Rattle.object_checks.proofs.window_fine.Goals as goal

pub returns : goal.returns
unfolding window_fine
returns c = c.records_fine.ensures window_record_fine (λ i h passed p. search rules)
