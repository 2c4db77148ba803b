-- Where the power lies: of a number from 3 to 14 from 10⁻⁵ to 1000, so that it is never NaN, 0 or infinite there. Assumes nothing.
use mathlib.Core.Path.{◌≡◌, refl}
use mathlib.Core.Bool.{Bool, true, false, cond, ◌&&◌}
use Prim.Native.Nat.{ℕ, suc, ◌+◌, ◌*◌, ◌^◌, ◌<◌}
use lib.Dec.{T}
use lib.Ieee.{Float, neg, add, sub, mul, div, lt, le, is_nan}
use lib.Ieee.Bits.{is_true}
use Rattle.doubles.specs.Arithmetic.{◌⊕◌, ◌⊖◌, ◌⊗◌, ◌⊘◌, decimal, whole, bits}
use Rattle.doubles.specs.Series.{horner}
use Rattle.doubles.specs.Order.{InRange, Bounded, Number}
use Rattle.doubles.proofs.Order.{lt→le, le_of_not_lt}
use Rattle.doubles.proofs.Bounds.{one_number}
use Rattle.doubles.proofs.Ranges.{both_of}
use Rattle.doubles.proofs.Intervals.{holds_ends, in_number, own_range, widen, add_in, sub_in, mul_in, div_in, bounded, as_range, add_bounded, mul_bounded, div_bounded, div_by_bounded, constant, tests, tested, horner_in}
use Rattle.powers.specs.Power.{logarithm_step, logarithm_of, exponential_step, square, power_of, power_by, pow_minus1253}

-- ---- the logarithm's series: every bracket lies within 1.1

abbrev bracket : Float
bracket = decimal 11 1

-- 1/(2n+1) lies within 1
reciprocal_test : ℕ → Bool
unfolding whole neg div le
reciprocal_test n = le (neg (whole 1)) (whole 1 ⊘ whole (2 * n + 1)) && le (whole 1 ⊘ whole (2 * n + 1)) (whole 1)

reciprocals_tested : T (tests reciprocal_test 10)
unfolding tests reciprocal_test
reciprocals_tested = tt

logarithm_step_bounded : (z h : Float) (n : ℕ) → T (reciprocal_test n) → Bounded (decimal 24 2) z → Bounded bracket h → Bounded bracket (logarithm_step z n h)
unfolding logarithm_step reciprocal_test whole decimal neg add mul le
logarithm_step_bounded z h n t r s =
    let square : Bounded (decimal 6 2) (z ⊗ z) = mul_bounded r r tt in
    let product : Bounded (decimal 7 2) ((z ⊗ z) ⊗ h) = mul_bounded square s tt in
    let first : Bounded (whole 1) (whole 1 ⊘ whole (2 * n + 1)) = constant (whole 1) (whole 1 ⊘ whole (2 * n + 1)) t in
    add_bounded first product tt

ratio_bounded : {w : Float} → InRange (decimal 7 1) (decimal 14 1) w → Bounded (decimal 24 2) ((w ⊖ whole 1) ⊘ (w ⊕ whole 1))
unfolding whole decimal neg add sub div lt le
ratio_bounded {w} r =
    let less : InRange (neg (decimal 4 1)) (decimal 4 1) (w ⊖ whole 1) = sub_in r (own_range one_number) tt in
    let less-bounded : Bounded (decimal 4 1) (w ⊖ whole 1) = record { from = less.from; to = less.to } in
    let more : InRange (decimal 169 2) (decimal 25 1) (w ⊕ whole 1) = add_in r (own_range one_number) tt in
    div_by_bounded less-bounded more tt tt

series_bounded : {z : Float} → Bounded (decimal 24 2) z → Bounded bracket (logarithm_step z 0 (horner (logarithm_step z) 10 (whole 1 ⊘ whole 23)))
series_bounded {z} r = logarithm_step_bounded z _ 0 first r (record { from = inner.from; to = inner.to })
  where
    first : T (reciprocal_test 0)
    first = unfold reciprocal_test in tt

    start : InRange (neg bracket) bracket (whole 1 ⊘ whole 23)
    start = unfold whole decimal neg div le in as_range (constant bracket (whole 1 ⊘ whole 23) tt)

    keeps : (k : ℕ) → k < 10 → (x : Float) → InRange (neg bracket) bracket x → InRange (neg bracket) bracket (logarithm_step z (suc k) x)
    keeps k l x s = as_range (logarithm_step_bounded z x (suc k) (tested reciprocal_test 10 reciprocals_tested k l) r (record { from = s.from; to = s.to }))

    inner : InRange (neg bracket) bracket (horner (logarithm_step z) 10 (whole 1 ⊘ whole 23))
    inner = horner_in (logarithm_step z) 10 keeps (whole 1 ⊘ whole 23) start

-- ln 2 to four places of two
logarithm_bounded : (m w : Float) → Bounded (whole 4) m → InRange (decimal 7 1) (decimal 14 1) w → Bounded (decimal 34 1) (logarithm_of m w)
unfolding logarithm_of whole decimal bits neg add mul le
logarithm_bounded m w p r =
    let z = (w ⊖ whole 1) ⊘ (w ⊕ whole 1) in
    let near : Bounded (decimal 24 2) z = ratio_bounded r in
    let h = logarithm_step z 0 (horner (logarithm_step z) 10 (whole 1 ⊘ whole 23)) in
    let twos : Bounded (decimal 278 2) (m ⊗ bits 0x3FE62E42FEFA39EF) = mul_bounded p (constant (decimal 6932 4) (bits 0x3FE62E42FEFA39EF) tt) tt in
    let double : Bounded (decimal 48 2) (whole 2 ⊗ z) = mul_bounded (constant (whole 2) (whole 2) tt) near tt in
    let product : Bounded (decimal 53 2) ((whole 2 ⊗ z) ⊗ h) = mul_bounded double (series_bounded near) tt in
    add_bounded twos product tt

-- ---- the exponential's series: every bracket lies from 0.5 to 1.5

quotient_test : ℕ → Bool
unfolding whole decimal neg div lt le
quotient_test n = lt (whole 0) (whole n) && holds_ends (neg (decimal 27 2)) (decimal 27 2) (whole n) (whole n) (neg (decimal 27 2)) (neg (decimal 27 2) ⊘ whole n) (decimal 27 2 ⊘ whole n) (decimal 27 2)

quotients_tested : T (tests quotient_test 16)
unfolding tests quotient_test
quotients_tested = tt

exponential_step_in : (v h : Float) (n : ℕ) → T (quotient_test n) → Bounded (decimal 27 2) v → InRange (decimal 5 1) (decimal 15 1) h → InRange (decimal 5 1) (decimal 15 1) (exponential_step v n h)
unfolding exponential_step quotient_test whole decimal neg add mul le
exponential_step_in v h n t r s =
    let b = both_of (lt (whole 0) (whole n)) (holds_ends (neg (decimal 27 2)) (decimal 27 2) (whole n) (whole n) (neg (decimal 27 2)) (neg (decimal 27 2) ⊘ whole n) (decimal 27 2 ⊘ whole n) (decimal 27 2)) t in
    let q : Bounded (decimal 27 2) (v ⊘ whole n) = div_bounded (whole n) r b.0 b.1 in
    let k : Bounded (decimal 15 1) h = bounded s tt in
    let m : Bounded (decimal 41 2) ((v ⊘ whole n) ⊗ h) = mul_bounded q k tt in
    add_in (own_range one_number) (as_range m) tt

exponential_in : {v : Float} → Bounded (decimal 27 2) v → InRange (decimal 5 1) (decimal 15 1) (horner (exponential_step v) 16 (whole 1))
exponential_in {v} r = horner_in (exponential_step v) 16 keeps (whole 1) start
  where
    start : InRange (decimal 5 1) (decimal 15 1) (whole 1)
    start = unfold whole decimal le in widen (own_range one_number) tt

    keeps : (k : ℕ) → k < 16 → (x : Float) → InRange (decimal 5 1) (decimal 15 1) x → InRange (decimal 5 1) (decimal 15 1) (exponential_step v (suc k) x)
    keeps k l x s = exponential_step_in v x (suc k) (tested quotient_test 16 quotients_tested k l) r s

-- squared four times
power_in : {l : Float} → Bounded (decimal 34 1) l → InRange (decimal 1 5) (whole 1000) (power_of l)
unfolding power_of square whole decimal neg mul div lt le
power_in {l} r =
    let v = (neg (decimal 1253 3) ⊗ l) ⊘ whole 16 in
    let product : Bounded (decimal 427 2) (neg (decimal 1253 3) ⊗ l) = mul_bounded (constant (decimal 1253 3) (neg (decimal 1253 3)) tt) r tt in
    let small : Bounded (decimal 27 2) v = div_bounded (whole 16) product tt tt in
    let h = horner (exponential_step v) 16 (whole 1) in
    let once : InRange (decimal 25 2) (decimal 225 2) (h ⊗ h) = mul_in (exponential_in small) (exponential_in small) tt tt in
    let twice : InRange (decimal 6 2) (decimal 51 1) ((h ⊗ h) ⊗ (h ⊗ h)) = mul_in once once tt tt in
    let thrice : InRange (decimal 35 4) (whole 27) (((h ⊗ h) ⊗ (h ⊗ h)) ⊗ ((h ⊗ h) ⊗ (h ⊗ h))) = mul_in twice twice tt tt in
    mul_in thrice thrice tt tt

-- ---- the power

-- w = u/2^m lies from 0.7 to 1.4, by tests of the ends of u
by_in : (m : ℕ) {low high u : Float} → T (le (neg (whole 4)) (whole m) && le (whole m) (whole 4)) → T (lt (whole 0) (whole (2 ^ m)))
    → T (holds_ends low high (whole (2 ^ m)) (whole (2 ^ m)) (decimal 7 1) (low ⊘ whole (2 ^ m)) (high ⊘ whole (2 ^ m)) (decimal 14 1))
    → InRange low high u → InRange (decimal 1 5) (whole 1000) (power_by m u)
unfolding power_by
by_in m {u} few positive ends r = power_in (logarithm_bounded (whole m) (u ⊘ whole (2 ^ m)) (constant (whole 4) (whole m) few) (div_in (whole (2 ^ m)) r positive ends))

below_5_6 : {u : Float} → InRange (whole 3) (decimal 56 1) u → InRange (decimal 1 5) (whole 1000) (power_by 2 u)
unfolding whole decimal neg div lt le
below_5_6 r = by_in 2 tt tt tt r

below_11_2 : {u : Float} → InRange (decimal 56 1) (decimal 112 1) u → InRange (decimal 1 5) (whole 1000) (power_by 3 u)
unfolding whole decimal neg div lt le
below_11_2 r = by_in 3 tt tt tt r

up_to_14 : {u : Float} → InRange (decimal 112 1) (whole 14) u → InRange (decimal 1 5) (whole 1000) (power_by 4 u)
unfolding whole decimal neg div lt le
up_to_14 r = by_in 4 tt tt tt r

pub power_range : {u : Float} → InRange (whole 3) (whole 14) u → InRange (decimal 1 5) (whole 1000) (pow_minus1253 u)
unfolding pow_minus1253
power_range {u} r =
    rw (is_true (le (whole 3) u) r.from.holds, is_true (le u (whole 14)) r.to.holds) (go (lt u (decimal 56 1)) (lt u (decimal 112 1)) refl refl)
  where
    first : Number (decimal 56 1)
    first = record { holds = unfold decimal is_nan in tt }

    second : Number (decimal 112 1)
    second = record { holds = unfold decimal is_nan in tt }

    go : (b c : Bool) → lt u (decimal 56 1) ≡ b → lt u (decimal 112 1) ≡ c → InRange (decimal 1 5) (whole 1000) (cond b (power_by 2 u) (cond c (power_by 3 u) (power_by 4 u)))
    go true c p q = below_5_6 (record { from = r.from; to = lt→le (record { holds = rw p tt }) })
    go false true p q = below_11_2 (record { from = le_of_not_lt (in_number r) first p; to = lt→le (record { holds = rw q tt }) })
    go false false p q = up_to_14 (record { from = le_of_not_lt (in_number r) second q; to = r.to })
