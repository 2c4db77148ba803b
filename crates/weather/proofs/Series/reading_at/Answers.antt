-- `Series::reading_at` meets its contract.
use Rattle.weather.specs.Weather.{read_series}
use Rattle.weather.proofs.Series.reading_at.Goals as goal

pub returns : goal.returns
unfolding read_series
returns c = rw (c.double_at.ensures, c.double_at-2.ensures, c.double_at-3.ensures)
