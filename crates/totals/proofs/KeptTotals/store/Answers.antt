-- `KeptTotals::store` meets its contract.
use Rattle.totals.specs.Kept.{put_kept}
use Rattle.totals.proofs.KeptTotals.store.Goals as goal

pub returns : goal.returns
unfolding put_kept
returns c = rw (c.store_totals-2.ensures, c.store_totals.ensures)
