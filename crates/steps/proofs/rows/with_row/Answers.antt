-- `with_row` meets its contract.
use mathlib.Core.Path.{refl}
use Rattle.jobs.specs.Rows.{with_row}
use Rattle.steps.proofs.rows.with_row.Goals as goal

pub returns : goal.returns
unfolding with_row
returns c = refl
