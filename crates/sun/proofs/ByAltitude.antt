-- What comes of an altitude from 0 to 90 degrees that is 0 or at least 0.0001: its sine, the denominator of the azimuth, the azimuth itself
-- and the air mass are finite numbers. Assumes nothing.
use Rattle.std.proofs.Common.{◌≡◌, ◌*◌, ◌^◌, Bool, true, false, cond, ◌&&◌, ◌⊎◌, refl, inl, inr}
use lib.Ieee.{Float, neg, add, sub, mul, div, lt, le, is_nan}
use Rattle.doubles.specs.Arithmetic.{◌⊕◌, ◌⊖◌, ◌⊗◌, ◌⊘◌, decimal, whole, bits}
use Rattle.doubles.specs.Functions.{to_radians, to_degrees, pi}
use Rattle.doubles.specs.Order.{◌≼◌, ◌≺◌, InRange, Bounded, Number}
use Rattle.doubles.proofs.Order.{lt→le, lt_excludes, lt_of_not_le}
use Rattle.doubles.proofs.Bounds.{zero_number, one_number}
use Rattle.doubles.proofs.Intervals.{in_number, own_range, widen, add_in, mul_in, div_by_in, bounded_number, neg_bounded, more_bounded, add_bounded, sub_bounded, mul_bounded, div_by_bounded, constant}
use Rattle.angles.specs.declared.SinCos.{SinCos}
use Rattle.angles.specs.Sine.{sine}
use Rattle.angles.proofs.Computed.{steps}
use Rattle.angles.proofs.FirstQuarter.{quarter_turn, radians_from, sine_in, cosine_in}
use Rattle.arcsines.specs.Arcsine.{half_pi, arcsine}
use Rattle.arcsines.proofs.Range.{arcsine_range, arcsine_up}
use Rattle.powers.specs.Power.{pow_minus1253}
use Rattle.powers.proofs.Range.{power_range}
use Rattle.sun.specs.Hour.{azimuth_branch, azimuth_numerator, azimuth_from, azimuth_denominator_of, air_mass_by, air_mass_of}
use Rattle.sun.proofs.UnitRange.{UnitRange, unit_product}

-- ---- the sine

-- what is known of an altitude: night's is 0, and day's at least 0.0001
abbrev pub Altitude : Float → Type 0
Altitude a = (a ≡ whole 0) ⊎ InRange (decimal 1 4) (whole 90) a

pub altitude_in : {a : Float} → Altitude a → InRange (whole 0) (whole 90) a
unfolding whole decimal le
altitude_in {a} (inl e) = rw e (widen (own_range zero_number) tt)
altitude_in {a} (inr r) = widen r tt

pub sine_up : {a : Float} → InRange (whole 0) (whole 90) a → InRange (whole 0) (whole 1) (sine (to_radians a))
unfolding whole decimal bits pi neg sub mul div le
sine_up r = sine_in (whole 0) (whole 0) tt tt tt tt (radians_from (whole 0) (whole 0) tt tt r)

sine_by_day : {a : Float} → InRange (decimal 1 4) (whole 90) a → InRange (decimal 6 7) (whole 1) (sine (to_radians a))
unfolding whole decimal bits pi neg sub mul div le
sine_by_day r = sine_in (decimal 17 7) (decimal 6 7) tt tt tt tt (radians_from (decimal 1 4) (decimal 17 7) tt tt r)

sine_from_10 : {a : Float} → InRange (whole 10) (whole 90) a → InRange (decimal 6 2) (whole 1) (sine (to_radians a))
unfolding whole decimal bits pi neg sub mul div le
sine_from_10 r = sine_in (decimal 17 2) (decimal 6 2) tt tt tt tt (radians_from (whole 10) (decimal 17 2) tt tt r)

-- a sine above 0 is by day, and so not too small to divide by
pub sine_above : {a : Float} → Altitude a → whole 0 ≺ sine (to_radians a) → decimal 6 7 ≼ sine (to_radians a)
sine_above (inr r) h = (sine_by_day r).from
sine_above {a} (inl e) h = absurd (none e h)
  where
    at_zero : sine (to_radians (whole 0)) ≼ whole 0
    at_zero = unfold steps to_radians whole in record { holds = tt }

    none : {a : Float} → a ≡ whole 0 → whole 0 ≺ sine (to_radians a) → ⊥
    none e h = lt_excludes (rw e at h) at_zero

-- ---- the azimuth

denominator_in : {a : Float} → InRange (whole 0) (whole 90) a → InRange (decimal 2 17) (whole 1) (azimuth_denominator_of a)
unfolding azimuth_denominator_of
denominator_in {a} r = cosine_in (quarter (arcsine_up (sine_up r).from))
  where
    quarter : {x : Float} → InRange (whole 0) half_pi x → InRange (whole 0) quarter_turn x
    quarter s = widen s (unfold whole half_pi bits div le in tt)

-- how far beyond ±180 an azimuth may lie
abbrev pub far_azimuth : Float
far_azimuth = whole (5 * 10 ^ 18)

aux2_bounded : {arc denominator : Float} → Bounded half_pi arc → InRange (decimal 2 17) (whole 1) denominator → Bounded (whole (46 * 10 ^ 17)) (to_degrees (arc ⊘ denominator))
unfolding to_degrees half_pi whole decimal neg mul div lt le
aux2_bounded {arc} {denominator} p q =
    let quotient : Bounded (whole (8 * 10 ^ 16)) (arc ⊘ denominator) = div_by_bounded p q tt tt in
    mul_bounded quotient (constant (decimal 573 1) (whole 180 ⊘ pi) tt) tt

branch_bounded : (s c : Float) {aux2 : Float} → Bounded (whole (46 * 10 ^ 17)) aux2 → Bounded far_azimuth (azimuth_branch s c aux2)
unfolding azimuth_branch whole neg add sub le
branch_bounded s c {aux2} r = go (le (whole 0) s && lt (whole 0) c) (lt (whole 180) aux2) (lt c (whole 0))
  where
    half : Bounded (whole 180) (whole 180)
    half = constant (whole 180) (whole 180) tt

    less : Bounded far_azimuth (aux2 ⊖ whole 180)
    less = sub_bounded r half tt

    rest : Bounded far_azimuth (whole 180 ⊖ aux2)
    rest = sub_bounded half r tt

    sum : Bounded far_azimuth (whole 180 ⊕ aux2)
    sum = add_bounded half r tt

    own : Bounded far_azimuth aux2
    own = more_bounded r tt

    go : (b d e : Bool) → Bounded far_azimuth (cond b (cond d (aux2 ⊖ whole 180) (whole 180 ⊖ aux2)) (cond e aux2 (neg (whole 180 ⊕ aux2))))
    go true true e = less
    go true false e = rest
    go false d true = own
    go false d false = neg_bounded sum

pub azimuth_bounded : (l : SinCos) {d w : SinCos} {a : Float} → UnitRange d → UnitRange w → InRange (whole 0) (whole 90) a
    → Bounded far_azimuth (azimuth_from l d w (arcsine (azimuth_numerator d w)) (azimuth_denominator_of a))
unfolding azimuth_from azimuth_numerator
azimuth_bounded l {d} {w} p q r = branch_bounded _ _ (aux2_bounded (arcsine_range (bounded_number (unit_product p.cos q.sin))) (denominator_in r))

-- ---- the air mass

high_in : {sin_altitude : Float} → InRange (decimal 6 2) (whole 1) sin_altitude → InRange (whole 0) (whole (10 ^ 6)) (whole 1 ⊘ sin_altitude)
unfolding whole decimal div lt le
high_in r = div_by_in (own_range one_number) r tt tt

low_in : {a s : Float} → InRange (whole 0) (whole 10) a → InRange (whole 0) (whole 1) s
    → InRange (whole 0) (whole (10 ^ 6)) (whole 1 ⊘ (s ⊕ decimal 15 2 ⊗ pow_minus1253 (a ⊕ decimal 3885 3)))
unfolding whole decimal add mul div lt le is_nan
low_in {a} {s} r q =
    let offset : InRange (decimal 3885 3) (decimal 3885 3) (decimal 3885 3) = own_range (record { holds = tt }) in
    let u : InRange (whole 3) (whole 14) (a ⊕ decimal 3885 3) = add_in r offset tt in
    let factor : InRange (decimal 15 2) (decimal 15 2) (decimal 15 2) = own_range (record { holds = tt }) in
    let term : InRange (decimal 14 7) (whole 151) (decimal 15 2 ⊗ pow_minus1253 (a ⊕ decimal 3885 3)) = mul_in factor (power_range u) tt tt in
    let sum : InRange (decimal 14 7) (whole 153) (s ⊕ decimal 15 2 ⊗ pow_minus1253 (a ⊕ decimal 3885 3)) = add_in q term tt in
    div_by_in (own_range one_number) sum tt tt

pub air_mass_in : {a : Float} → InRange (whole 0) (whole 90) a → InRange (whole 0) (whole (10 ^ 6)) (air_mass_of a)
unfolding air_mass_of air_mass_by
air_mass_in {a} r = go (le (whole 10) a) refl
  where
    ten : Number (whole 10)
    ten = record { holds = unfold whole is_nan in tt }

    go : (b : Bool) → le (whole 10) a ≡ b
        → InRange (whole 0) (whole (10 ^ 6)) (cond b (whole 1 ⊘ sine (to_radians a)) (whole 1 ⊘ (sine (to_radians a) ⊕ decimal 15 2 ⊗ pow_minus1253 (a ⊕ decimal 3885 3))))
    go true e = high_in (sine_from_10 (record { from = record { holds = rw e tt }; to = r.to }))
    go false e = low_in (record { from = r.from; to = lt→le (lt_of_not_le (in_number r) ten e) }) (sine_up r)
