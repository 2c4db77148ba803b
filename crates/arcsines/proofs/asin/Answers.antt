use Rattle.arcsines.proofs.ArcsineParts.{arcsine_by_lem}
use Rattle.arcsines.proofs.asin.Goals as goal

pub returns : goal.returns
returns c = rw (c.arcsine_by.ensures, c.arcsine_series_both-series.ensures, c.series_argument-argument.ensures, c.magnitude.ensures) (arcsine_by_lem _)
