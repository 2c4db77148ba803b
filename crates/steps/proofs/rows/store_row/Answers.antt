-- `store_row` meets its contract.
use mathlib.Core.Path.{refl}
use Rattle.jobs.specs.Rows.{put_row}
use Rattle.steps.proofs.rows.store_row.Goals as goal

pub returns : goal.returns
unfolding put_row
returns c = rw (c.store_double-6.ensures, c.store_double-5.ensures, c.store_double-4.ensures, c.store_double-3.ensures, c.store_double-2.ensures, c.store_double.ensures) refl
