-- Where a day's values lie, for day numbers up to 366: the declination within 28 degrees, the equation of time within 16.3 minutes,
-- the extra-terrestrial radiation from 1300 to 1420 W/m².
-- Every angle on the way is far within the 64 radians that a sine takes. Assumes nothing.
use mathlib.Core.Path.{◌≡◌, refl}
use mathlib.Core.Bool.{Bool, true, false, cond, ◌&&◌}
use Prim.Native.Nat.{ℕ, suc, ◌+◌, ◌-◌, ◌≤◌}
use native.Mathlib.Nat.{lt_irrefl}
use native.Mathlib.Omega.{arith}
use lib.IntN.{pos, negsuc, nat_abs}
use lib.Dec.{T, leb, ltb, ltb→lt, nltb→le, nleb→lt}
use lib.Ieee.{Float, nan, neg, minus, add, sub, mul, div, le, is_nan}
use lib.Ieee.Scale.{finite}
use Rattle.doubles.specs.Arithmetic.{◌⊕◌, ◌⊖◌, ◌⊗◌, ◌⊘◌, decimal, whole}
use Rattle.doubles.specs.Functions.{pi, to_radians}
use Rattle.doubles.specs.Order.{InRange, Bounded}
use Rattle.doubles.proofs.Bounds.{one_number}
use Rattle.doubles.proofs.Intervals.{own_range, add_in, mul_in, as_range, constant, whole_bounded, int_bounded, more_bounded, add_bounded, sub_bounded, mul_bounded}
use Rattle.angles.specs.Sine.{sine, cosine}
use Rattle.angles.proofs.Laws.{sine_range, cosine_range}
use Rattle.days.specs.Day.{orbit_deviation, solar_declination, days_from, equation_of_time_on, extra_terrestrial_radiation_on, day_of}
use Rattle.days.specs.Table.{DayInRange}

-- ---- declination

-- once round the orbit, in radians
deviation_bounded : (n : ℕ) → n ≤ 366 → Bounded (decimal 64 1) (to_radians (orbit_deviation n))
unfolding to_radians orbit_deviation whole decimal neg mul div le
deviation_bounded n h =
    let degrees : Bounded (whole 366) (whole 360 ⊘ whole 365 ⊗ whole n) = mul_bounded (constant (whole 1) (whole 360 ⊘ whole 365) tt) (whole_bounded 366 n h) tt in
    mul_bounded degrees (constant (decimal 174534 7) (pi ⊘ whole 180) tt) tt

-- the sines and cosines of b, 2b and 3b
record Harmonics (b : Float) : Type 0 where
  sine_1 : Bounded (whole 1) (sine b)
  cosine_1 : Bounded (whole 1) (cosine b)
  sine_2 : Bounded (whole 1) (sine (whole 2 ⊗ b))
  cosine_2 : Bounded (whole 1) (cosine (whole 2 ⊗ b))
  sine_3 : Bounded (whole 1) (sine (whole 3 ⊗ b))
  cosine_3 : Bounded (whole 1) (cosine (whole 3 ⊗ b))

harmonics : {b : Float} → Bounded (decimal 64 1) b → Harmonics b
unfolding whole decimal neg mul le
harmonics {b} h =
    let once : Bounded (whole 64) b = more_bounded h tt in
    let twice : Bounded (whole 64) (whole 2 ⊗ b) = mul_bounded (constant (whole 2) (whole 2) tt) h tt in
    let thrice : Bounded (whole 64) (whole 3 ⊗ b) = mul_bounded (constant (whole 3) (whole 3) tt) h tt in
    record {
      sine_1 = sine_range once;
      cosine_1 = cosine_range once;
      sine_2 = sine_range twice;
      cosine_2 = cosine_range twice;
      sine_3 = sine_range thrice;
      cosine_3 = cosine_range thrice;
    }

-- a coefficient times what lies within 1
scaled : (k : Float) {x : Float} → Bounded (whole 1) x → T (le (neg k) k && le k k) → T (finite k && finite (whole 1) && le (k ⊗ whole 1) k) → Bounded k (k ⊗ x)
scaled k r own most = mul_bounded (constant k k own) r most

pub declination_bounded : (n : ℕ) → n ≤ 366 → Bounded (whole 28) (solar_declination (orbit_deviation n))
unfolding solar_declination whole decimal neg add sub mul le
declination_bounded n h =
    let b = to_radians (orbit_deviation n) in
    let k = harmonics (deviation_bounded n h) in
    let first : Bounded (decimal 234 1) (decimal 33281 5 ⊖ decimal 22984 3 ⊗ cosine b) =
    sub_bounded (constant (decimal 34 2) (decimal 33281 5) tt) (scaled (decimal 22984 3) k.cosine_1 tt tt) tt in
    let second : Bounded (decimal 238 1) (decimal 33281 5 ⊖ decimal 22984 3 ⊗ cosine b ⊖ decimal 3499 4 ⊗ cosine (whole 2 ⊗ b)) =
    sub_bounded first (scaled (decimal 3499 4) k.cosine_2 tt tt) tt in
    let third : Bounded (whole 24) (decimal 33281 5 ⊖ decimal 22984 3 ⊗ cosine b ⊖ decimal 3499 4 ⊗ cosine (whole 2 ⊗ b) ⊖ decimal 1398 4 ⊗ cosine (whole 3 ⊗ b)) =
    sub_bounded second (scaled (decimal 1398 4) k.cosine_3 tt tt) tt in
    let fourth : Bounded (decimal 278 1) (decimal 33281 5 ⊖ decimal 22984 3 ⊗ cosine b ⊖ decimal 3499 4 ⊗ cosine (whole 2 ⊗ b) ⊖ decimal 1398 4 ⊗ cosine (whole 3 ⊗ b) ⊕ decimal 37872 4 ⊗ sine b) =
    add_bounded third (scaled (decimal 37872 4) k.sine_1 tt tt) tt in
    let fifth : Bounded (decimal 279 1) (decimal 33281 5 ⊖ decimal 22984 3 ⊗ cosine b ⊖ decimal 3499 4 ⊗ cosine (whole 2 ⊗ b) ⊖ decimal 1398 4 ⊗ cosine (whole 3 ⊗ b) ⊕ decimal 37872 4 ⊗ sine b ⊕ decimal 3205 5 ⊗ sine (whole 2 ⊗ b)) =
    add_bounded fourth (scaled (decimal 3205 5) k.sine_2 tt tt) tt in
    add_bounded fifth (scaled (decimal 7187 5) k.sine_3 tt tt) tt

-- ---- equation of time

days_bounded : (c k n : ℕ) → n ≤ k + c → k ≤ n + c → Bounded (whole c) (days_from k n)
unfolding days_from
days_bounded c k n h l = int_bounded c (minus n k) (size (leb k n) refl)
  where
    size : (b : Bool) → leb k n ≡ b → nat_abs (cond b (pos (n - k)) (negsuc (k - suc n))) ≤ c
    size true e = omega arith
    size false e = omega (arith, nleb→lt k n (rw e tt))

-- the cosine in three of the five ranges
swing : (k n : ℕ) (rate : Float) → k ≤ 366 → n ≤ 366 → Bounded (decimal 5 2) rate → Bounded (whole 1) (cosine (days_from k n ⊗ rate))
unfolding whole decimal neg mul le
swing k n rate h l r =
    let angle : Bounded (whole 64) (days_from k n ⊗ rate) = mul_bounded (days_bounded 366 k n (omega arith) (omega arith)) r tt in
    cosine_range angle

module _ (n : ℕ) (h : n ≤ 366) where
  first_range : n ≤ 20 → Bounded (decimal 163 1) (decimal 26 1 ⊕ decimal 44 2 ⊗ whole n)
  unfolding whole decimal neg add mul le
  first_range l =
      let grown : Bounded (whole 9) (decimal 44 2 ⊗ whole n) = mul_bounded (constant (decimal 44 2) (decimal 44 2) tt) (whole_bounded 20 n l) tt in
      add_bounded (constant (decimal 26 1) (decimal 26 1) tt) grown tt

  second_range : Bounded (decimal 163 1) (decimal 52 1 ⊕ whole 9 ⊗ cosine (days_from 43 n ⊗ decimal 357 4))
  unfolding whole decimal neg add mul le
  second_range =
      add_bounded (constant (decimal 52 1) (decimal 52 1) tt) (scaled (whole 9) (swing 43 n (decimal 357 4) (omega arith) h (constant (decimal 5 2) (decimal 357 4) tt)) tt tt) tt

  third_range : Bounded (decimal 163 1) (decimal 14 1 ⊖ whole 5 ⊗ cosine (days_from 135 n ⊗ decimal 449 4))
  unfolding whole decimal neg sub mul le
  third_range =
      sub_bounded (constant (decimal 14 1) (decimal 14 1) tt) (scaled (whole 5) (swing 135 n (decimal 449 4) (omega arith) h (constant (decimal 5 2) (decimal 449 4) tt)) tt tt) tt

  fourth_range : Bounded (decimal 163 1) (neg (decimal 63 1) ⊖ whole 10 ⊗ cosine (days_from 306 n ⊗ decimal 36 3))
  unfolding whole decimal neg sub mul le
  fourth_range =
      sub_bounded (constant (decimal 63 1) (neg (decimal 63 1)) tt) (scaled (whole 10) (swing 306 n (decimal 36 3) (omega arith) h (constant (decimal 5 2) (decimal 36 3) tt)) tt tt) tt

  fifth_range : 336 ≤ n → Bounded (decimal 163 1) (decimal 45 2 ⊗ days_from 359 n)
  unfolding whole decimal neg mul le
  fifth_range l = mul_bounded (constant (decimal 45 2) (decimal 45 2) tt) (days_bounded 23 359 n (omega arith) (omega arith)) tt

  pub equation_bounded : Bounded (decimal 163 1) (equation_of_time_on n)
  unfolding equation_of_time_on
  equation_bounded = go (ltb n 21) (ltb n 136) (ltb n 241) (ltb n 336) (ltb n 367) refl refl refl
    where
      go : (b c d e f : Bool) → ltb n 21 ≡ b → ltb n 336 ≡ e → ltb n 367 ≡ f → Bounded (decimal 163 1)
          (cond b (decimal 26 1 ⊕ decimal 44 2 ⊗ whole n)
          (cond c (decimal 52 1 ⊕ whole 9 ⊗ cosine (days_from 43 n ⊗ decimal 357 4))
          (cond d (decimal 14 1 ⊖ whole 5 ⊗ cosine (days_from 135 n ⊗ decimal 449 4))
          (cond e (neg (decimal 63 1) ⊖ whole 10 ⊗ cosine (days_from 306 n ⊗ decimal 36 3))
          (cond f (decimal 45 2 ⊗ days_from 359 n) nan)))))
      go true c d e f p q r = let l = ltb→lt n 21 (rw p tt) in first_range (omega arith)
      go false true d e f p q r = second_range
      go false false true e f p q r = third_range
      go false false false true f p q r = fourth_range
      go false false false false true p q r = fifth_range (nltb→le n 336 (rw q tt))
      go false false false false false p q r = absurd (lt_irrefl n (omega (arith, nltb→le n 367 (rw r tt))))

-- ---- extra-terrestrial radiation

pub radiation_in : (n : ℕ) → n ≤ 366 → InRange (whole 1300) (whole 1420) (extra_terrestrial_radiation_on (orbit_deviation n))
unfolding extra_terrestrial_radiation_on whole decimal neg add mul le is_nan
radiation_in n h =
    let c = (harmonics (deviation_bounded n h)).cosine_1 in
    let swing : Bounded (decimal 33 3) (decimal 33 3 ⊗ cosine (to_radians (orbit_deviation n))) = scaled (decimal 33 3) c tt tt in
    let ratio : InRange (decimal 96 2) (decimal 1034 3) (whole 1 ⊕ decimal 33 3 ⊗ cosine (to_radians (orbit_deviation n))) = add_in (own_range one_number) (as_range swing) tt in
    let constant-in : InRange (whole 1367) (whole 1367) (whole 1367) = own_range (record { holds = tt }) in
    mul_in constant-in ratio tt tt

-- ---- all three

pub day_in_range : (n : ℕ) → n ≤ 366 → DayInRange (day_of n)
unfolding day_of
day_in_range n h = record { declination = declination_bounded n h; equation = equation_bounded n h; radiation = radiation_in n h }
