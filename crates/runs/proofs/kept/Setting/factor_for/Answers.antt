-- `Setting::factor_for` meets its contract: the sectors are the table's, and the objects those at the window.
use Rattle.seasons.specs.Table.{table_sectors}
use Rattle.runs.proofs.kept.Setting.factor_for.Goals as goal

pub returns : goal.returns
unfolding table_sectors
returns c = rw (← c.objects.ensures, ← c.sectors.ensures) c.factor_of.ensures
