-- The paper's lines for the arcsine, as theorems about the definition: the series from 0 to 0.5, above that PI/2 − 2·arcsine(root((1−a)/2)), and odd below 0.
-- The root is at most 0.5, so that the inner arcsine is the series, which the definition takes at once. Assumes nothing.
use mathlib.Core.Path.{◌≡◌, refl, sym}
use mathlib.Core.Bool.{Bool, true, false}
use Prim.Native.Nat.{ℕ, zero, suc, ◌+◌, ◌*◌, ◌^◌, ◌≤◌, ◌<◌}
use native.Mathlib.Nat.{le_trans as ℕ·le-trans, le_of_eq, not-le_of_lt, mul_assoc, mul-le-mul, mul-pos, zero-lt-suc}
use native.Mathlib.Decide.{dec_le}
use native.Mathlib.Omega.{arith}
use lib.Dec.{T, lit<, lt→ltb}
use lib.IntN.{ℤ}
use lib.Pow.{pow_pos}
use lib.Ieee.{Float, nan, inf, fin, binary64, sub, div, neg, lt, le, fits, is_nan}
use lib.Ieee.Bits.{is_true}
use lib.Ieee.Fits.{up_pos, div-fits}
use lib.Ieee.Exact.{HasValue}
use lib.Ieee.Order.{le_of_values}
use lib.Ieee.Positive.{positive, values_of_le}
use lib.Ieee.Scale.{finite}
use Rattle.doubles.specs.Arithmetic.{◌⊖◌, ◌⊗◌, ◌⊘◌, decimal, whole}
use Rattle.doubles.specs.Functions.{clamp}
use Rattle.doubles.specs.Order.{◌≼◌, ◌≺◌, Number, Finite}
use Rattle.doubles.proofs.Order.{le→cross, le_refl, le_trans, lt→le, left_number, le_of_not_lt, not_below, not_up_to, neg-le, neg-lt, neg-neg}
use Rattle.doubles.proofs.Monotone.{sub_mono, div_mono}
use Rattle.doubles.proofs.Bounds.{sub_number, div-number, zero_number, one_number, zero-le_one, sub_nonneg, div_nonneg, positive_nonzero}
use Rattle.doubles.proofs.Ranges.{Between}
use Rattle.doubles.proofs.Intervals.{minus_zero}
use Rattle.doubles.proofs.Clamping.{clamp_own, clamp_above, clamp_below}
use Rattle.roots.specs.Root.{square_root}
use Rattle.roots.proofs.Theorems.{square_root_is_root, square_root-not_negative}
use Rattle.arcsines.specs.Arcsine.{arcsine_series, half_angle_sine, arcsine_upward, odd_extension, arcsine, half_pi}

abbrev pub half : Float
half = decimal 5 1

abbrev pub quarter : Float
quarter = decimal 25 2

-- ---- (1 − a) / 2 lies from 0 to 0.25
unit_finite : {x : Float} → whole 0 ≼ x → x ≼ whole 1 → Finite x
unfolding whole le
unit_finite {x} h k = record { holds = go x h.holds k.holds }
  where
    go : (x : Float) → T (le (whole 0) x) → T (le x (whole 1)) → T (finite x)
    go nan h k = k
    go (inf true) h k = absurd h
    go (inf false) h k = absurd k
    go (fin s m e) h k = tt

-- what the checker computes of 0, 0.25, 0.5, 1 and 2
pub record Constants : Type 0 where
  pub zero_half : whole 0 ≼ half
  quarter_half : quarter ≼ half
  half_one : half ≼ whole 1
  pub minus_one : neg (whole 1) ≼ whole 0
  minus_one_below : neg (whole 1) ≺ whole 0
  two : whole 0 ≺ whole 2
  finite_one : Finite (whole 1)
  finite_two : Finite (whole 2)
  pub number_half : Number half
  number_quarter : Number quarter
  difference : whole 1 ⊖ half ≡ half
  quotient : half ⊘ whole 2 ≡ quarter
  half_fits : T (fits binary64 half)
  half_value : HasValue half false 1 2
  half_units : HasValue half false (2 ^ 1073) (2 ^ 1074)
  quarter_positive : T (positive quarter)
  quarter_value : HasValue quarter false 1 4

pub constants : Constants
unfolding whole decimal neg le lt is_nan sub div fits
constants = record {
  zero_half = record { holds = tt };
  quarter_half = record { holds = tt };
  half_one = record { holds = tt };
  minus_one = record { holds = tt };
  minus_one_below = record { holds = tt };
  two = record { holds = tt };
  finite_one = record { holds = tt };
  finite_two = record { holds = tt };
  number_half = record { holds = tt };
  number_quarter = record { holds = tt };
  difference = refl;
  quotient = refl;
  half_fits = tt;
  half_value = (refl, refl);
  half_units = (refl, refl);
  quarter_positive = tt;
  quarter_value = (refl, refl);
}

radicand_in : {a : Float} → half ≼ a → a ≼ whole 1 → (whole 0 ≼ (whole 1 ⊖ a) ⊘ whole 2) × ((whole 1 ⊖ a) ⊘ whole 2 ≼ quarter)
radicand_in {a} h k =
    let c = constants in
    let n : Number (whole 1 ⊖ a) = sub_number c.finite_one (unit_finite (le_trans c.zero_half h) k) in
    let low : whole 0 ≼ whole 1 ⊖ a = sub_nonneg k n in
    let high : whole 1 ⊖ a ≼ half = rw c.difference at (sub_mono (le_refl one_number) h n (rw c.difference c.number_half)) in
    let m : Number ((whole 1 ⊖ a) ⊘ whole 2) = div-number (unit_finite low (le_trans high c.half_one)) c.finite_two (positive_nonzero c.two) in
    (div_nonneg low c.two m, rw c.quotient at (div_mono c.two high m (rw c.quotient c.number_quarter)))

-- ---- so its root lies from 0 to 0.5

-- With u for 1, a for the radicand, b for its root and c for 0.5: a root above 0.5 would be too far from the exact one.
not_above : (a b c u : ℕ) → u ≡ 2 * c → a * 4 ≤ 1 * u → (c < b → (b + c) * (b + c) < 4 * (a * u)) → b * 2 ≤ 1 * u
not_above a b c u e h near = elim (dec_le b c) [ yes k ↦ omega arith | no k ↦ absurd (far (omega arith)) ]
  where
    far : c < b → ⊥
    far k =
        let l : u ≤ b + c = omega arith in
        let q : 4 * a ≤ u = omega arith in
        not-le_of_lt (near k) (ℕ·le-trans (le_of_eq (sym (mul_assoc 4 a u))) (mul-le-mul (ℕ·le-trans q l) l))

positive_root : (x : Float) → T (fits binary64 x) → T (positive x) → x ≼ quarter → square_root x ≼ half
positive_root x f p h =
    let c = constants in
    let n = (square_root_is_root x f).nearest p in
    let room = not_above n.a n.b (2 ^ 1073) (2 ^ 1074) refl
    (values_of_le x quarter n.a (2 ^ 1074) 1 4 p c.quarter_positive n.operand c.quarter_value h.holds)
    (n.above half (2 ^ 1073) c.half_fits c.half_units) in
    record { holds = le_of_values (square_root x) half n.b (2 ^ 1074) 1 2 (pow_pos 1074) (lit< tt) n.root c.half_value room }

root_in : (x : Float) → T (fits binary64 x) → whole 0 ≼ x → x ≼ quarter → square_root x ≼ half
root_in nan f h k = unfold le in absurd k.holds
root_in (inf true) f h k = unfold le whole in absurd h.holds
root_in (inf false) f h k = unfold le decimal in absurd k.holds
root_in (fin s zero e) f h k = unfold square_root in le_trans k constants.quarter_half
root_in (fin false (suc m) e) f h k = positive_root (fin false (suc m) e) f (lt→ltb 0 (suc m) (zero-lt-suc m)) k
root_in (fin true (suc m) e) f h k = absurd (none m e h)
  where
    none : (m : ℕ) (e : ℤ) → whole 0 ≼ fin true (suc m) e → ⊥
    none m e h = unfold whole in (let c = le→cross {x = whole 0} {y = fin true (suc m) e} (record { holds = tt }) (record { holds = tt }) h in omega (arith, mul-pos (zero-lt-suc m) (up_pos e)))

pub half_angle_in : {a : Float} → half ≺ a → a ≼ whole 1 → Between half (half_angle_sine a)
unfolding half_angle_sine
half_angle_in {a} h k =
    let x = (whole 1 ⊖ a) ⊘ whole 2 in
    let r = radicand_in (lt→le h) k in
    let q : square_root x ≼ half = root_in x (div-fits binary64 (whole 1 ⊖ a) (whole 2)) r.0 r.1 in
    record { low = le_of_not_lt (left_number q) zero_number (unfold whole in square_root-not_negative x); high = q }

-- ---- the paper's lines

-- from 0 to 0.5 the series
pub arcsine_series_lem : (a : Float) → T (le (whole 0) a) → T (le a (decimal 5 1)) → arcsine a ≡ arcsine_series a
unfolding arcsine arcsine_upward
arcsine_series_lem a h k =
    let c = constants in
    let low : whole 0 ≼ a = record { holds = h } in
    let high : a ≼ half = record { holds = k } in
    simp (clamp_own (le_trans c.minus_one low) (le_trans high c.half_one), is_true (le a half) k, not_below low)

-- the inner arcsine is the series
pub arcsine_inner : (a : Float) → T (lt (decimal 5 1) a) → T (le a (whole 1)) → arcsine (half_angle_sine a) ≡ arcsine_series (half_angle_sine a)
arcsine_inner a h k =
    let r = half_angle_in (record { holds = h }) (record { holds = k }) in
    arcsine_series_lem (half_angle_sine a) r.low.holds r.high.holds

-- above 0.5: PI/2 − 2·arcsine(root((1−a)/2))
pub arcsine_above_half : (a : Float) → T (lt (decimal 5 1) a) → T (le a (whole 1)) → arcsine a ≡ half_pi ⊖ whole 2 ⊗ arcsine (square_root ((whole 1 ⊖ a) ⊘ whole 2))
unfolding half_angle_sine
arcsine_above_half a h k =
    let c = constants in
    let above : half ≺ a = record { holds = h } in
    let low : whole 0 ≼ a = le_trans c.zero_half (lt→le above) in
    rw (arcsine_inner a h k) (unfold arcsine arcsine_upward in simp (clamp_own (le_trans c.minus_one low) (record { holds = k }), not_up_to above, not_below low))

-- odd for a below 0
pub arcsine_odd : (a : Float) → T (lt a (whole 0)) → arcsine a ≡ neg (arcsine (neg a))
unfolding arcsine
arcsine_odd a h = go (lt a (neg (whole 1))) refl
  where
    below : a ≺ whole 0
    below = record { holds = h }

    go : (b : Bool) → lt a (neg (whole 1)) ≡ b → odd_extension arcsine_upward (clamp a) ≡ neg (odd_extension arcsine_upward (clamp (neg a)))
    go true e =
        let beyond : a ≺ neg (whole 1) = record { holds = rw e tt } in
        let beyond' : whole 1 ≺ neg a = rw (neg-neg (whole 1)) at (neg-lt beyond) in
        rw (clamp_below beyond, clamp_above beyond') (unfold odd_extension in simp (is_true (lt (neg (whole 1)) (whole 0)) constants.minus_one_below.holds, not_below zero-le_one, neg-neg (whole 1)))
    go false e =
        let low : neg (whole 1) ≼ a = le_of_not_lt (left_number (lt→le below)) (left_number constants.minus_one) e in
        let up : whole 0 ≼ neg a = le_trans minus_zero (neg-le (lt→le below)) in
        let high : neg a ≼ whole 1 = rw (neg-neg (whole 1)) at (neg-le low) in
        rw (clamp_own low (le_trans (lt→le below) zero-le_one), clamp_own (le_trans constants.minus_one up) high)
        (unfold odd_extension in simp (is_true (lt a (whole 0)) h, not_below up))
