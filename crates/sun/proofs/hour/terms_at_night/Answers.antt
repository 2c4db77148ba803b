use Rattle.std.proofs.Common.{refl}
use lib.Ieee.{of_bits}
use Rattle.doubles.specs.Arithmetic.{whole}
use Rattle.doubles.specs.Functions.{to_radians}
use Rattle.angles.proofs.Computed.{steps}
use Rattle.arcsines.proofs.Computed.{steps as steps·arcsine}
use Rattle.powers.proofs.Computed.{steps as steps·power}
use Rattle.sun.specs.Hour.{solar_zenith, azimuth_denominator_of, air_mass_of}
use Rattle.sun.specs.HourParts.{altitude_terms}
use Rattle.sun.proofs.hour.terms_at_night.Goals as goal

pub returns : goal.returns
unfolding altitude_terms of_bits whole to_radians steps steps·arcsine steps·power solar_zenith azimuth_denominator_of air_mass_of
returns c = refl
