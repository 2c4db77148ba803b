-- The state of the sky (Perez model, ISO 52010-1), in the Rust's order of operations: the beam after conversion, clearness, sky
-- brightness, and the brightness coefficients F1 and F2 by Table 8. Angles are in degrees.
use Rattle.std.specs.Prelude.{Bool, cond, List, ℕ, ◌+◌, get_or, Float}
use Rattle.std.specs.Float.{nan}
use Rattle.std.specs.Float.Ieee.{lt, eq}
use Rattle.doubles.specs.Arithmetic.{◌⊕◌, ◌⊗◌, ◌⊘◌, decimal, whole}
use Rattle.doubles.specs.Functions.{pi, cube_of}
use Rattle.sun.specs.declared.hour.Hour.{Hour}
use Rattle.irradiance.specs.declared.sky.Sky.{Sky}
use Rattle.irradiance.specs.Table.{coefficients_at}

-- The beam at normal incidence, in W/m²: where the series has it on the horizontal plane it is divided by the altitude's sine, if that
-- is above 0.
unfoldable pub direct_beam : Bool → Float → Float → Float
unfolding whole
direct_beam conversion raw sin_altitude = cond conversion (cond (lt (whole 0) sin_altitude) (raw ⊘ sin_altitude) raw) raw

-- 1.014 · ((PI / 180) · altitude)³
unfoldable pub altitude_term : Float → Float
unfolding decimal whole pi
altitude_term altitude = decimal 1014 3 ⊗ cube_of (pi ⊘ whole 180 ⊗ altitude)

-- ((diffuse + beam) / diffuse + term) / (1 + term); diffuse exactly 0 gives 999
unfoldable pub clearness : Float → Float → Float → Float
unfolding whole altitude_term
clearness diffuse beam altitude =
    cond (eq diffuse (whole 0)) (whole 999)
    (((diffuse ⊕ beam) ⊘ diffuse ⊕ altitude_term altitude) ⊘ (whole 1 ⊕ altitude_term altitude))

-- delta: air mass · diffuse / extra-terrestrial radiation
unfoldable pub sky_brightness : Float → Float → Float → Float
sky_brightness air_mass_of diffuse extra_terrestrial = air_mass_of ⊗ diffuse ⊘ extra_terrestrial

-- a + b·delta + c·((PI · zenith) / 180)
unfoldable pub brightness_of : Float → Float → Float → Float → Float → Float
unfolding whole pi
brightness_of a b c delta zenith = a ⊕ b ⊗ delta ⊕ c ⊗ (pi ⊗ zenith ⊘ whole 180)

-- by the three coefficients of a row from the k-th on
unfoldable pub brightness_in : List Float → ℕ → Float → Float → Float
brightness_in row k = brightness_of (get_or row k nan) (get_or row (k + 1) nan) (get_or row (k + 2) nan)

unfoldable pub brightness : ℕ → Float → Float → Float → Float
brightness k e = brightness_in (coefficients_at e) k

-- F1 below 0 becomes 0
unfoldable pub cut_brightness : Float → Float
unfolding whole
cut_brightness f1 = cond (lt f1 (whole 0)) (whole 0) f1

unfoldable pub circumsolar_brightness : Float → Float → Float → Float
circumsolar_brightness e delta zenith = cut_brightness (brightness 0 e delta zenith)

-- F2 may be negative
unfoldable pub horizontal_brightness : Float → Float → Float → Float
horizontal_brightness e delta zenith = brightness 3 e delta zenith

-- The sky of one step: the diffuse value, the beam after conversion, F1 and F2.
unfoldable pub sky_of : Bool → Hour → Float → Float → Float → Sky
unfolding direct_beam clearness sky_brightness circumsolar_brightness horizontal_brightness
sky_of conversion hour extra_terrestrial diffuse direct =
    let beam = direct_beam conversion direct hour.sin_altitude in
    let e = clearness diffuse beam hour.altitude in
    let delta = sky_brightness hour.air_mass diffuse extra_terrestrial in
    record {
      diffuse = diffuse;
      beam = beam;
      f1 = circumsolar_brightness e delta hour.zenith;
      f2 = horizontal_brightness e delta hour.zenith;
    }
