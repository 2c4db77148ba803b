-- `store_day` meets its contract.
use Rattle.days.specs.Table.{put_day}
use Rattle.days.proofs.table.store_day.Goals as goal

pub returns : goal.returns
unfolding put_day
returns c =
    rw (c.store_double-3.ensures, c.store_double-2.ensures, c.store_double.ensures)
