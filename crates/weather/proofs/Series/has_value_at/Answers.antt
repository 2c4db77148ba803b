-- `Series::has_value_at` meets its contract.
use Rattle.weather.specs.Weather.{in_series}
use Rattle.weather.proofs.Series.has_value_at.Goals as goal

pub returns : goal.returns
unfolding in_series
returns c = rw (c.word_count.ensures, c.word_count-2.ensures, c.word_count-3.ensures)
