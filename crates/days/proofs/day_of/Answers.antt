use Rattle.days.specs.Day.{day_of}
use Rattle.days.proofs.day_of.Goals as goal

pub returns : goal.returns
unfolding day_of
returns c =
    rw (c.init_extra_terrestrial_radiation.ensures, c.init_equation_of_time.ensures, c.init_solar_declination.ensures, c.init_earth_orbit_deviation-deviation.ensures)
