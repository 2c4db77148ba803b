use Rattle.sun.specs.Hour.{air_mass_of}
use Rattle.sun.proofs.hour.init_air_mass.Goals as goal

pub returns : goal.returns
unfolding air_mass_of
returns c =
    rw (c.air_mass_by.ensures, c.sin.ensures, c.to_radians.ensures)
