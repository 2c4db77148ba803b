-- `day_at` meets its contract.
use Rattle.days.specs.Table.{day_at}
use Rattle.days.proofs.table.day_at.Goals as goal

pub returns : goal.returns
unfolding day_at
returns c = rw (c.double_at.ensures, c.double_at-2.ensures, c.double_at-3.ensures)
