-- Functions of one to three doubles, by their numbers: 1 is the sine, 25 the coefficient F2. Any other number gives NaN.
use Rattle.std.specs.Prelude.{ℕ, List, [], ◌∷◌, ◌++◌, slice_index_or, Float}
use Rattle.std.specs.Float.{nan}
use Rattle.doubles.specs.Functions.{min_of2, max_of2, float_min, float_max, floor_of, cube_of, to_radians, to_degrees}
use Rattle.roots.specs.Root.{square_root}
use Rattle.angles.specs.Sine.{sine, cosine, tangent}
use Rattle.arcsines.specs.Arcsine.{arcsine, arccosine}
use Rattle.powers.specs.Power.{pow_minus1253}
use Rattle.days.specs.Day.{solar_declination, extra_terrestrial_radiation_on}
use Rattle.sun.specs.Hour.{hour_angle_of, solar_altitude, solar_zenith, air_mass_of}
use Rattle.irradiance.specs.Sky.{clearness, sky_brightness, circumsolar_brightness, horizontal_brightness}

unfoldable pub angle_values : Float → List Float
angle_values x = nan ∷ sine x ∷ cosine x ∷ tangent x ∷ arcsine x ∷ arccosine x ∷ pow_minus1253 x ∷ square_root x ∷ []

unfoldable pub number_values : Float → Float → List Float
number_values x y = floor_of x ∷ cube_of x ∷ to_radians x ∷ to_degrees x ∷ min_of2 x y ∷ max_of2 x y ∷ float_min x y ∷ float_max x y ∷ []

unfoldable pub sun_values : Float → Float → Float → List Float
sun_values x y z = solar_declination x ∷ extra_terrestrial_radiation_on x ∷ hour_angle_of x ∷ solar_altitude x y z ∷ solar_zenith x ∷ air_mass_of x ∷ []

unfoldable pub sky_values : Float → Float → Float → List Float
sky_values x y z = clearness x y z ∷ sky_brightness x y z ∷ circumsolar_brightness x y z ∷ horizontal_brightness x y z ∷ []

unfoldable pub leaf_of : ℕ → Float → Float → Float → Float
leaf_of n x y z = slice_index_or (angle_values x ++ (number_values x y ++ (sun_values x y z ++ sky_values x y z))) n nan
