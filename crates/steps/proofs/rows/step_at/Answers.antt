-- `step_at` meets its contract.
use mathlib.Core.Path.{refl}
use Rattle.steps.specs.Kept.{step_kept}
use Rattle.steps.proofs.rows.step_at.Goals as goal

pub returns : goal.returns
unfolding step_kept
returns c = rw (c.step_row.ensures, c.reading_at-reading.ensures, c.time_series_idx-index.ensures) refl
