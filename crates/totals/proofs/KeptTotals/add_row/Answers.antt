-- `KeptTotals::add_row` meets its contract.
use Rattle.totals.specs.Kept.{with_row_added}
use Rattle.totals.proofs.KeptTotals.add_row.Goals as goal

pub returns : goal.returns
unfolding with_row_added
returns c = rw (c.with_step-self.ensures, c.with_step-self-2.ensures)
