-- `totals_at` meets its contract.
use Rattle.jobs.specs.Totals.{totals_at}
use Rattle.totals.proofs.totals_at.Goals as goal

pub returns : goal.returns
unfolding totals_at
returns c = rw (c.word_at.ensures, c.double_at.ensures, c.double_at-2.ensures)
