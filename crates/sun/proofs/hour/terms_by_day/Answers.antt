use Rattle.sun.specs.Hour.{azimuth_denominator_of, air_mass_of}
use Rattle.sun.specs.HourParts.{altitude_terms}
use Rattle.sun.proofs.hour.terms_by_day.Goals as goal

pub returns : goal.returns
unfolding altitude_terms azimuth_denominator_of air_mass_of
returns c = (
  rw (
    c.air_mass_by.ensures,
    c.cos-2.ensures,
    c.to_radians-2.ensures,
    c.cos.ensures,
    c.init_solar_zenith_angle-zenith.ensures,
    c.asin_both-arcsines.ensures.1,
    c.sin-sin.ensures,
    c.to_radians.ensures,
  ),
  c.asin_both-arcsines.ensures.0,
)
