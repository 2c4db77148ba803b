-- `sectors_fine` meets its contract.
use Rattle.std.proofs.Common.{rules}
use Rattle.object_checks.specs.Checks.{sectors_fine, sector_record_fine}
use Rattle.object_checks.proofs.sectors_fine.Goals as goal

pub returns : goal.returns
unfolding sectors_fine
returns c = c.records_fine.ensures sector_record_fine (λ i h passed p. search rules)
