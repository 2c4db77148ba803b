use Rattle.arcsines.proofs.ArcsineParts.{arcsine_by_lem}
use Rattle.arcsines.proofs.asin_both.Goals as goal

pub returns : goal.returns
returns c = (
  rw (c.arcsine_by.ensures, c.arcsine_series_both-series.ensures, c.series_argument-first.ensures, c.magnitude.ensures) (arcsine_by_lem _),
  rw (c.arcsine_by-2.ensures, c.arcsine_series_both-series.ensures, c.series_argument-second.ensures, c.magnitude-2.ensures) (arcsine_by_lem _),
)
