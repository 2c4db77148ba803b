use Rattle.sun.specs.Hour.{cut_altitude}
use Rattle.sun.proofs.hour.altitude_terms.Goals as goal

pub returns-then-is_night : goal.returns-then-is_night
unfolding cut_altitude
returns-then-is_night c = (rw (c.terms_at_night.ensures, ← c.is_night.ensures, c.if-is_night.true), c.asin.ensures)

pub returns-else-is_night : goal.returns-else-is_night
unfolding cut_altitude
returns-else-is_night c = (rw (c.terms_by_day.ensures.0, ← c.is_night.ensures, c.if-is_night.false), c.terms_by_day.ensures.1)
