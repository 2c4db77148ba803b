-- What depends on the day alone: ISO 52010-1's orbit deviation, declination, equation of time and extra-terrestrial radiation,
-- in the Rust's order of operations. The day number n counts from 1; angles are in degrees.
use Rattle.std.specs.Prelude.{cond, ℕ, ltb, Float}
use Rattle.std.specs.Float.{nan, binary64}
use Rattle.std.specs.Float.Ieee.{neg, of_int, minus}
use Rattle.doubles.specs.Arithmetic.{◌⊕◌, ◌⊖◌, ◌⊗◌, ◌⊘◌, decimal, whole}
use Rattle.doubles.specs.Functions.{to_radians}
use Rattle.angles.specs.Sine.{sine, cosine}
use Rattle.days.specs.declared.Day.{Day}

-- how far the earth has gone on its orbit: 360 / 365 degrees a day
unfoldable pub orbit_deviation : ℕ → Float
unfolding whole
orbit_deviation n = whole 360 ⊘ whole 365 ⊗ whole n

-- 0.33281 − 22.984·cos b − 0.3499·cos 2b − 0.1398·cos 3b + 3.7872·sin b + 0.03205·sin 2b + 0.07187·sin 3b
unfoldable pub solar_declination : Float → Float
unfolding decimal whole
solar_declination deviation =
    let b = to_radians deviation in
    decimal 33281 5
    ⊖ decimal 22984 3 ⊗ cosine b
    ⊖ decimal 3499 4 ⊗ cosine (whole 2 ⊗ b)
    ⊖ decimal 1398 4 ⊗ cosine (whole 3 ⊗ b)
    ⊕ decimal 37872 4 ⊗ sine b
    ⊕ decimal 3205 5 ⊗ sine (whole 2 ⊗ b)
    ⊕ decimal 7187 5 ⊗ sine (whole 3 ⊗ b)

-- n − k as a double
unfoldable pub days_from : ℕ → ℕ → Float
unfolding of_int
days_from k n = of_int binary64 (minus n k)

-- In minutes, by five ranges of the day number: below 21, 136, 241, 336, then to 366. There is no day after that.
-- 2.6 + 0.44·n; 5.2 + 9·cos((n − 43)·0.0357); 1.4 − 5·cos((n − 135)·0.0449); −6.3 − 10·cos((n − 306)·0.036); 0.45·(n − 359)
unfoldable pub equation_of_time_on : ℕ → Float
unfolding decimal whole neg days_from
equation_of_time_on n =
    cond (ltb n 21) (decimal 26 1 ⊕ decimal 44 2 ⊗ whole n)
    (cond (ltb n 136) (decimal 52 1 ⊕ whole 9 ⊗ cosine (days_from 43 n ⊗ decimal 357 4))
    (cond (ltb n 241) (decimal 14 1 ⊖ whole 5 ⊗ cosine (days_from 135 n ⊗ decimal 449 4))
    (cond (ltb n 336) (neg (decimal 63 1) ⊖ whole 10 ⊗ cosine (days_from 306 n ⊗ decimal 36 3))
    (cond (ltb n 367) (decimal 45 2 ⊗ days_from 359 n)
    nan))))

-- 1367·(1 + 0.033·cos(deviation)) W/m²: the solar constant is 1367
unfoldable pub extra_terrestrial_radiation_on : Float → Float
unfolding decimal whole
extra_terrestrial_radiation_on deviation = whole 1367 ⊗ (whole 1 ⊕ decimal 33 3 ⊗ cosine (to_radians deviation))

-- the three of day number n together
unfoldable pub day_of : ℕ → Day
day_of n = record {
  declination = solar_declination (orbit_deviation n);
  equation_of_time = equation_of_time_on n;
  extra_terrestrial_radiation = extra_terrestrial_radiation_on (orbit_deviation n);
}
