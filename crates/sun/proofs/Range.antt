-- Where the sun's angles lie, for every accepted site and every hour of either year: the hour angle within 207 degrees, the altitude from
-- 0 to 90, every sine and cosine from −1 to 1; azimuth and air mass are finite. So none of them is NaN. Assumes nothing.
use Rattle.std.proofs.Common.{◌≡◌, ℕ, ◌+◌, ◌/◌, ◌%◌, ◌^◌, ◌<◌, ◌≤◌, Bool, true, false, cond, ◌&&◌, T, leb, ℤ, pos, negsuc, neg_ℤ, nat_abs, refl, inl, inr, arith, leb→le}
use lib.Signed.{le_z}
use lib.Ieee.{Float, neg, add, sub, mul, div, lt, le, is_nan}
use Rattle.doubles.specs.Arithmetic.{◌⊕◌, ◌⊖◌, ◌⊗◌, ◌⊘◌, decimal, whole}
use Rattle.doubles.specs.Functions.{to_radians, to_degrees, pi}
use Rattle.doubles.specs.Order.{◌≼◌, ◌≺◌, InRange, Bounded, Number}
use Rattle.doubles.specs.Ranges.{within}
use Rattle.doubles.proofs.Order.{lt→le, le_of_not_lt}
use Rattle.doubles.proofs.Ranges.{both_of, within_range}
use Rattle.doubles.proofs.Intervals.{own_range, add_in, sub_in, bounded, as_range, bounded_number, more_bounded, add_bounded, sub_bounded, mul_bounded, div_bounded, constant, whole_le, int_bounded}
use Rattle.angles.specs.Sine.{cosine}
use Rattle.angles.proofs.Laws.{cosine_range}
use Rattle.arcsines.specs.Arcsine.{half_pi}
use Rattle.arcsines.proofs.Range.{arcsine_range}
use Rattle.days.specs.Day.{orbit_deviation, solar_declination, equation_of_time_on, day_of}
use Rattle.days.proofs.Range.{declination_bounded, equation_bounded}
use Rattle.orientation.specs.Orientation.{wrapped_once}
use Rattle.sun.specs.declared.site.Site.{Site}
use Rattle.sun.specs.declared.hour.Hour.{Hour}
use Rattle.sun.specs.Site.{site_fine}
use Rattle.sun.specs.Hour.{sin_cos_of, time_shift_of, solar_time, hour_angle_of, altitude_sine, is_night, cut_altitude, solar_altitude, solar_zenith, solar_azimuth, hour_of}
use Rattle.sun.proofs.UnitRange.{UnitRange, unit_product, radians_bounded, unit_range}
use Rattle.sun.proofs.ByAltitude.{Altitude, altitude_in, sine_up, sine_above, far_azimuth, azimuth_bounded, air_mass_in}

-- ---- an angle shifted by 360 once

number_180 : Number (whole 180)
unfolding whole is_nan
number_180 = record { holds = tt }

number_minus_180 : Number (neg (whole 180))
unfolding whole neg is_nan
number_minus_180 = record { holds = tt }

shifted_back : {angle : Float} → InRange (whole 180) (decimal 5667 1) angle → Bounded (whole 207) (angle ⊖ whole 360)
unfolding whole decimal neg sub le is_nan
shifted_back {angle} r =
    let turn : InRange (whole 360) (whole 360) (whole 360) = own_range (record { holds = tt }) in
    let d : InRange (neg (whole 207)) (whole 207) (angle ⊖ whole 360) = sub_in r turn tt in
    record { from = d.from; to = d.to }

shifted_on : {angle : Float} → InRange (neg (decimal 5667 1)) (neg (whole 180)) angle → Bounded (whole 207) (angle ⊕ whole 360)
unfolding whole decimal neg add le is_nan
shifted_on {angle} r =
    let turn : InRange (whole 360) (whole 360) (whole 360) = own_range (record { holds = tt }) in
    let d : InRange (neg (whole 207)) (whole 207) (angle ⊕ whole 360) = add_in r turn tt in
    record { from = d.from; to = d.to }

not_shifted : {angle : Float} → InRange (neg (whole 180)) (whole 180) angle → Bounded (whole 207) angle
unfolding whole neg le
not_shifted r = bounded r tt

wrapped_bounded : {angle : Float} → Bounded (decimal 5667 1) angle → Bounded (whole 207) (wrapped_once angle)
unfolding wrapped_once
wrapped_bounded {angle} r = go (lt (whole 180) angle) (lt angle (neg (whole 180))) refl refl
  where
    go : (b c : Bool) → lt (whole 180) angle ≡ b → lt angle (neg (whole 180)) ≡ c → Bounded (whole 207) (cond b (angle ⊖ whole 360) (cond c (angle ⊕ whole 360) angle))
    go true c p q = shifted_back (record { from = lt→le (record { holds = rw p tt }); to = r.to })
    go false true p q = shifted_on (record { from = r.from; to = lt→le (record { holds = rw q tt }) })
    go false false p q = not_shifted (record { from = le_of_not_lt (bounded_number r) number_minus_180 q; to = le_of_not_lt number_180 (bounded_number r) p })

-- ---- the altitude by its sine

sum_of_products : {a b c d e : Float} → Bounded (whole 1) a → Bounded (whole 1) b → Bounded (whole 1) c → Bounded (whole 1) d → Bounded (whole 1) e → Bounded (whole 2) (a ⊗ b ⊕ c ⊗ d ⊗ e)
unfolding whole neg add le
sum_of_products p q r s t = add_bounded (unit_product p q) (unit_product (unit_product r s) t) tt

-- PI/2 is 90 degrees, rounded as the paper has it
degrees_bounded : {x : Float} → Bounded half_pi x → Bounded (whole 90) (to_degrees x)
unfolding to_degrees half_pi whole decimal neg mul div le
degrees_bounded h = mul_bounded h (constant (whole 180 ⊘ pi) (whole 180 ⊘ pi) tt) tt

-- night's is 0, and day's at least 0.0001
cut_altitude_lem : {x : Float} → Bounded (whole 90) x → Altitude (cut_altitude x)
unfolding cut_altitude is_night
cut_altitude_lem {x} r = go (lt x (decimal 1 4)) refl
  where
    least : Number (decimal 1 4)
    least = record { holds = unfold decimal is_nan in tt }

    go : (b : Bool) → lt x (decimal 1 4) ≡ b → Altitude (cond b (whole 0) x)
    go true e = inl refl
    go false e = inr (record { from = le_of_not_lt (bounded_number r) least e; to = r.to })

zenith_range : {altitude : Float} → InRange (whole 0) (whole 90) altitude → InRange (whole 0) (whole 90) (solar_zenith altitude)
unfolding solar_zenith whole sub le is_nan
zenith_range h =
    let right : InRange (whole 90) (whole 90) (whole 90) = own_range (record { holds = tt }) in
    sub_in right h tt

cos_zenith_bounded : {zenith : Float} → InRange (whole 0) (whole 90) zenith → Bounded (whole 1) (cosine (to_radians zenith))
unfolding whole neg le
cos_zenith_bounded {zenith} h =
    let wide : Bounded (whole 1000) zenith = bounded h tt in
    cosine_range (radians_bounded wide)

-- What is known of the sun of an hour. Its azimuth may lie far beyond ±180, where it stands overhead; a sine of its altitude that is above 0
-- is not too small to divide by.
pub record SunRange (sun : Hour) : Type 0 where
  pub altitude : InRange (whole 0) (whole 90) sun.altitude
  pub azimuth : Bounded far_azimuth sun.azimuth
  pub zenith : InRange (whole 0) (whole 90) sun.zenith
  pub hour_angle_lem : UnitRange sun.hour_angle
  pub sin_altitude_lem : InRange (whole 0) (whole 1) sun.sin_altitude
  pub sin_above : whole 0 ≺ sun.sin_altitude → decimal 6 7 ≼ sun.sin_altitude
  pub cos_zenith_lem : Bounded (whole 1) sun.cos_zenith
  pub air_mass_lem : InRange (whole 0) (whole (10 ^ 6)) sun.air_mass

-- ---- an accepted site

module _ (site : Site) (t : T (site_fine site)) where
  tests : T (within (neg (whole 90)) (whole 90) site.latitude) × T (within (neg (whole 180)) (whole 180) site.longitude) × T (le_z (neg_ℤ (pos 13)) site.timezone && le_z site.timezone (pos 14))
  unfolding site_fine
  tests =
      let a = within (neg (whole 90)) (whole 90) site.latitude in
      let b = within (neg (whole 180)) (whole 180) site.longitude in
      let c = le_z (neg_ℤ (pos 13)) site.timezone && le_z site.timezone (pos 14) in
      let d = leb site.start_day 365 in
      let e = within (decimal 25 2) (whole 24) site.time_series_step in
      let f = leb site.leap_year 1 in
      let g = leb site.direct_beam_conversion 1 in
      let p = both_of (a && b && c && d && e && f) g t in
      let q = both_of (a && b && c && d && e) f p.0 in
      let r = both_of (a && b && c && d) e q.0 in
      let s = both_of (a && b && c) d r.0 in
      let u = both_of (a && b) c s.0 in
      let v = both_of a b u.0 in
      (v.0, v.1, u.1)

  pub latitude_range : Bounded (whole 90) site.latitude
  latitude_range = let r = within_range (neg (whole 90)) (whole 90) site.latitude tests.0 in record { from = r.from; to = r.to }

  longitude_range : Bounded (whole 180) site.longitude
  longitude_range = let r = within_range (neg (whole 180)) (whole 180) site.longitude tests.1 in record { from = r.from; to = r.to }

  timezone_size : nat_abs site.timezone ≤ 14
  timezone_size = let p = both_of (le_z (neg_ℤ (pos 13)) site.timezone) (le_z site.timezone (pos 14)) tests.2 in size site.timezone p.0 p.1
    where
      size : (z : ℤ) → T (le_z (neg_ℤ (pos 13)) z) → T (le_z z (pos 14)) → nat_abs z ≤ 14
      size (pos n) l h = leb→le n 14 h
      size (negsuc n) l h = let k : n ≤ 12 = leb→le n 12 l in omega arith

  -- ---- the hour angle

  shift_bounded : Bounded (whole 26) (time_shift_of site.timezone site.longitude)
  unfolding time_shift_of whole neg sub div lt le
  shift_bounded =
      let east : Bounded (whole 12) (site.longitude ⊘ whole 15) = div_bounded (whole 15) longitude_range tt tt in
      sub_bounded (int_bounded 14 site.timezone timezone_size) east tt

  module _ (hour : ℕ) (h : hour < 8784) where
    day_number : hour / 24 + 1 ≤ 366
    day_number = omega arith

    abbrev solar : Float
    solar = solar_time (hour % 24) (equation_of_time_on (hour / 24 + 1)) (time_shift_of site.timezone site.longitude)

    hours_in : InRange (whole 1) (whole 24) (whole (hour % 24 + 1))
    hours_in = record { from = whole_le 1 (hour % 24 + 1) (omega arith); to = whole_le (hour % 24 + 1) 24 (omega arith) }

    solar_in : InRange (neg (decimal 25274 3)) (decimal 50274 3) solar
    unfolding solar_time whole decimal neg sub div lt le
    solar_in =
        let minutes : Bounded (decimal 272 3) (equation_of_time_on (hour / 24 + 1) ⊘ whole 60) = div_bounded (whole 60) (equation_bounded (hour / 24 + 1) day_number) tt tt in
        let local : InRange (decimal 727 3) (decimal 24272 3) (whole (hour % 24 + 1) ⊖ equation_of_time_on (hour / 24 + 1) ⊘ whole 60) = sub_in hours_in (as_range minutes) tt in
        sub_in local (as_range shift_bounded) tt

    pub hour_angle_bounded : Bounded (whole 207) (hour_angle_of solar)
    unfolding hour_angle_of whole decimal neg sub mul le is_nan
    hour_angle_bounded =
        let noon : InRange (decimal 125 1) (decimal 125 1) (decimal 125 1) = own_range (record { holds = tt }) in
        let away : InRange (neg (decimal 37775 3)) (decimal 37775 3) (decimal 125 1 ⊖ solar) = sub_in noon solar_in tt in
        let away-bounded : Bounded (decimal 37775 3) (decimal 125 1 ⊖ solar) = record { from = away.from; to = away.to } in
        let angle : Bounded (decimal 5667 1) (whole 15 ⊗ (decimal 125 1 ⊖ solar)) = mul_bounded (constant (whole 15) (whole 15) tt) away-bounded tt in
        wrapped_bounded angle

    -- ---- the hour's sines and cosines

    pub latitude_unit : UnitRange (sin_cos_of site.latitude)
    unfolding whole neg le
    latitude_unit = let wide : Bounded (whole 1000) site.latitude = more_bounded latitude_range tt in unit_range wide

    pub declination_unit : UnitRange (sin_cos_of (day_of (hour / 24 + 1)).declination)
    unfolding day_of whole neg le
    declination_unit = let wide : Bounded (whole 1000) (solar_declination (orbit_deviation (hour / 24 + 1))) = more_bounded (declination_bounded (hour / 24 + 1) day_number) tt in unit_range wide

    pub hour_angle_unit : UnitRange (sin_cos_of (hour_angle_of solar))
    unfolding whole neg le
    hour_angle_unit = let wide : Bounded (whole 1000) (hour_angle_of solar) = more_bounded hour_angle_bounded tt in unit_range wide

    -- ---- the altitude

    altitude_sine_bounded : Bounded (whole 2) (altitude_sine (sin_cos_of site.latitude) (sin_cos_of (day_of (hour / 24 + 1)).declination) (cosine (to_radians (hour_angle_of solar))))
    unfolding altitude_sine
    altitude_sine_bounded = sum_of_products declination_unit.sin latitude_unit.sin declination_unit.cos latitude_unit.cos (unfold sin_cos_of in hour_angle_unit.cos)

    supplement_unit : UnitRange (sin_cos_of (whole 180 ⊖ hour_angle_of solar))
    unfolding whole neg sub le
    supplement_unit =
        let wide : Bounded (whole 1000) (whole 180 ⊖ hour_angle_of solar) = sub_bounded (constant (whole 180) (whole 180) tt) hour_angle_bounded tt in
        unit_range wide

    pub sun_range : SunRange (hour_of site hour)
    unfolding hour_of day_of solar_altitude solar_azimuth
    sun_range =
        let known = cut_altitude_lem (degrees_bounded (arcsine_range (bounded_number altitude_sine_bounded))) in
        let altitude = altitude_in known in
        let zenith = zenith_range altitude in
        record {
          altitude = altitude;
          azimuth = azimuth_bounded (sin_cos_of site.latitude) declination_unit supplement_unit altitude;
          zenith = zenith;
          hour_angle_lem = hour_angle_unit;
          sin_altitude_lem = sine_up altitude;
          sin_above = sine_above known;
          cos_zenith_lem = cos_zenith_bounded zenith;
          air_mass_lem = air_mass_in altitude;
        }
