-- `kept_hour` meets its contract: its parts put together are the hour.
use Rattle.sun.proofs.HourParts.{hour_by_parts}
use Rattle.steps.specs.Kept.{fixed_of, kept_day, kept_hour}
use Rattle.steps.proofs.HourKept.{sun_put_together, incidence_put_together}
use Rattle.steps.proofs.kept.kept_hour.Goals as goal

pub returns : goal.returns
unfolding kept_hour kept_day fixed_of
returns c =
    let q = c.requires in
    let angles = c.hour_angles_by-hour_angles.ensures in
    let arcsines = c.asin_both-arcsines.ensures in
    let sun = sun_put_together _ _ _ _ _ _ _ _ _ angles c.altitude_sine-sine.ensures arcsines.0 c.hour_from-sun.ensures in
    let incidence = incidence_put_together _ _ _ _ _ _ _ _ _ _ _ _ _ angles c.incidence_argument-argument.ensures arcsines.1 c.incidence_cosine-cos_incidence.ensures c.incidence_by-incidence.ensures sun in
    rw (incidence, sun, q.day_value, q.fixed_value, hour_by_parts)
