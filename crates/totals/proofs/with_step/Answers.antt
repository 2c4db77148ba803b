-- `with_step` meets its contract.
use Rattle.jobs.specs.Totals.{with_step}
use Rattle.totals.proofs.with_step.Goals as goal

pub returns : goal.returns
unfolding with_step
returns c = rw (c.float_max.ensures, c.with_row.ensures)
