use lib.Ieee.{of_bits}
use Rattle.days.specs.Day.{solar_declination}
use Rattle.days.proofs.init_solar_declination.Goals as goal

pub returns : goal.returns
unfolding solar_declination of_bits
returns c =
    let once = c.sin_cos-once.ensures in
    let twice = c.sin_cos-twice.ensures in
    let thrice = c.sin_cos-thrice.ensures in
    rw (once.0, once.1, twice.0, twice.1, thrice.0, thrice.1, c.to_radians-b.ensures)
