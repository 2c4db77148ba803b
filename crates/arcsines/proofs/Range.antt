-- Where an arcsine and an arccosine lie: of any number the arcsine is from −PI/2 to PI/2 and the arccosine from 0 to PI, as doubles, so that
-- both are numbers; and what they are beyond ±1 and of NaN. Assumes nothing.
use mathlib.Core.Path.{◌≡◌, refl}
use mathlib.Core.Bool.{Bool, true, false, cond, ◌&&◌}
use Prim.Native.Nat.{ℕ, suc, ◌+◌, ◌-◌, ◌*◌, ◌^◌, ◌<◌}
use lib.Dec.{T}
use lib.Ieee.{Float, nan, add, sub, mul, div, neg, lt, le, is_nan}
use lib.Ieee.Scale.{finite}
use Rattle.doubles.specs.Arithmetic.{◌⊖◌, ◌⊗◌, ◌⊘◌, decimal, whole}
use Rattle.doubles.specs.Functions.{clamp, pi}
use Rattle.doubles.specs.Series.{horner}
use Rattle.doubles.specs.Order.{◌≼◌, ◌≺◌, InRange, Bounded, Number}
use Rattle.doubles.proofs.Order.{le_trans, lt→le, left_number, le_of_not_lt, lt_of_not_le, not_below, neg-le, neg-neg}
use Rattle.doubles.proofs.Bounds.{zero_number, one_number, zero-le_one, mul_nonneg}
use Rattle.doubles.proofs.Ranges.{Between, both_of}
use Rattle.doubles.proofs.Clamping.{clamp_above, clamp_below, clamp_range, clamp_in}
use Rattle.doubles.proofs.Intervals.{holds_ends, minus_zero, in_number, own_range, between_range, widen, add_in, sub_in, bounded, as_range, bounded_number, neg_bounded, mul_bounded, div_bounded, tests, tested, horner_in}
use Rattle.arcsines.specs.Arcsine.{arcsine_step, arcsine_series, half_pi, complement, half_angle_sine, arcsine_upward, arcsine, arccosine}
use Rattle.arcsines.proofs.Computed.{steps}
use Rattle.arcsines.proofs.Inner.{half, quarter, constants, half_angle_in}

-- ---- beyond ±1, and NaN

pub arcsine_above : {a : Float} → whole 1 ≺ a → arcsine a ≡ half_pi
unfolding steps
arcsine_above h = rw (clamp_above h) refl

pub arcsine_below : {a : Float} → a ≺ neg (whole 1) → arcsine a ≡ neg half_pi
unfolding steps
arcsine_below h = rw (clamp_below h) refl

pub arccosine_above : {a : Float} → whole 1 ≺ a → arccosine a ≡ whole 0
arccosine_above h = unfold arccosine in rw (arcsine_above h) (unfold half_pi div sub in refl)

pub arccosine_below : {a : Float} → a ≺ neg (whole 1) → arccosine a ≡ pi
arccosine_below h = unfold arccosine in rw (arcsine_below h) (unfold half_pi div sub neg in refl)

pub arcsine-nan : arcsine nan ≡ nan
unfolding steps
arcsine-nan = refl

pub arccosine-nan : arccosine nan ≡ nan
unfolding steps
arccosine-nan = refl

-- ---- the series of an argument from 0 to 0.5: every bracket lies from 0.5 to 1.5

-- (2n − 1)² and 2n(2n + 1)
abbrev odds : ℕ → Float
odds n = whole ((2 * n - 1) ^ 2)

abbrev evens : ℕ → Float
evens n = whole (2 * n * (2 * n + 1))

-- what the checker computes of them: 0.25 times their quotient is at most 0.25
unfoldable quotient_test : ℕ → Bool
unfolding whole decimal neg mul div lt le
quotient_test n =
    let most = quarter ⊗ odds n in
    (le (neg (odds n)) (odds n) && le (odds n) (odds n))
    && (finite quarter && finite (odds n) && le most most)
    && (lt (whole 0) (evens n) && holds_ends (neg most) most (evens n) (evens n) (neg quarter) (neg most ⊘ evens n) (most ⊘ evens n) quarter)

all_tested : T (tests quotient_test 24)
unfolding tests quotient_test
all_tested = tt

quotient_bounded : (t : Float) (n : ℕ) → Bounded quarter t → T (quotient_test n) → Bounded quarter ((t ⊗ odds n) ⊘ evens n)
unfolding quotient_test
quotient_bounded t n r b =
    let most = quarter ⊗ odds n in
    let p = both_of ((le (neg (odds n)) (odds n) && le (odds n) (odds n)) && (finite quarter && finite (odds n) && le most most))
    (lt (whole 0) (evens n) && holds_ends (neg most) most (evens n) (evens n) (neg quarter) (neg most ⊘ evens n) (most ⊘ evens n) quarter) b in
    let q = both_of (le (neg (odds n)) (odds n) && le (odds n) (odds n)) (finite quarter && finite (odds n) && le most most) p.0 in
    let own = both_of (le (neg (odds n)) (odds n)) (le (odds n) (odds n)) q.0 in
    let by = both_of (lt (whole 0) (evens n)) (holds_ends (neg most) most (evens n) (evens n) (neg quarter) (neg most ⊘ evens n) (most ⊘ evens n) quarter) p.1 in
    let odds-bounded : Bounded (odds n) (odds n) = record { from = record { holds = own.0 }; to = record { holds = own.1 } } in
    let product : Bounded most (t ⊗ odds n) = mul_bounded r odds-bounded q.1 in
    div_bounded (evens n) product by.0 by.1

abbrev three_halves : Float
three_halves = decimal 15 1

step_in : (t : Float) → Bounded quarter t → (k : ℕ) → k < 24 → (h : Float) → InRange half three_halves h → InRange half three_halves (arcsine_step t (suc k) h)
unfolding arcsine_step whole decimal neg add mul le
step_in t r k l h s =
    let q : Bounded quarter ((t ⊗ odds (suc k)) ⊘ evens (suc k)) = quotient_bounded t (suc k) r (tested quotient_test 24 all_tested k l) in
    let b : Bounded three_halves h = bounded s tt in
    let m : Bounded half (((t ⊗ odds (suc k)) ⊘ evens (suc k)) ⊗ h) = mul_bounded q b tt in
    add_in (own_range one_number) (as_range m) tt

-- from 0 to 0.75
abbrev three_quarters : Float
three_quarters = decimal 75 2

series_in : {a : Float} → Between half a → Between three_quarters (arcsine_series a)
unfolding arcsine_series whole decimal neg mul le
series_in {a} b =
    let r : Bounded half a = bounded (between_range b) tt in
    let t : Bounded quarter (a ⊗ a) = mul_bounded r r tt in
    let one : InRange half three_halves (whole 1) = widen (own_range one_number) tt in
    let h : InRange half three_halves (horner (arcsine_step (a ⊗ a)) 24 (whole 1)) = horner_in (arcsine_step (a ⊗ a)) 24 (step_in (a ⊗ a) t) (whole 1) one in
    let k : Bounded three_halves (horner (arcsine_step (a ⊗ a)) 24 (whole 1)) = bounded h tt in
    let m : Bounded three_quarters (a ⊗ horner (arcsine_step (a ⊗ a)) 24 (whole 1)) = mul_bounded r k tt in
    record { low = mul_nonneg b.low (le_trans constants.zero_half h.from) (bounded_number m); high = m.to }

-- ---- the arcsine

number-half_pi : Number half_pi
unfolding half_pi div is_nan
number-half_pi = record { holds = tt }

-- above 0.5: PI/2 − 2·the series
rest_in : {s : Float} → Between three_quarters s → Between half_pi (complement (whole 2 ⊗ s))
unfolding half_pi whole decimal neg sub mul div le is_nan
rest_in {s} b =
    let two : Bounded (whole 2) (whole 2) = bounded (own_range (record { holds = tt })) tt in
    let r : Bounded three_quarters s = bounded (between_range b) tt in
    let d : Bounded three_halves (whole 2 ⊗ s) = mul_bounded two r tt in
    let z : whole 0 ≼ whole 2 ⊗ s = mul_nonneg {x = whole 2} {y = s} (record { holds = tt }) b.low (bounded_number d) in
    let e : InRange (whole 0) three_halves (whole 2 ⊗ s) = record { from = z; to = d.to } in
    let c : InRange (whole 0) half_pi (half_pi ⊖ whole 2 ⊗ s) = sub_in (own_range number-half_pi) e tt in
    record { low = c.from; high = c.to }

three_quarters_below : three_quarters ≼ half_pi
unfolding decimal half_pi div le
three_quarters_below = record { holds = tt }

upward_in : {m : Float} → whole 0 ≼ m → m ≼ whole 1 → Between half_pi (arcsine_upward m)
unfolding arcsine_upward
upward_in {m} l u = go (le m half) refl
  where
    go : (b : Bool) → le m half ≡ b → Between half_pi (cond b (arcsine_series m) (complement (whole 2 ⊗ arcsine_series (half_angle_sine m))))
    go true e =
        let s = series_in (record { low = l; high = record { holds = rw e tt } }) in
        record { low = s.low; high = le_trans s.high three_quarters_below }
    go false e = rest_in (series_in (half_angle_in (lt_of_not_le constants.number_half (left_number u) e) u))

upward_bounded : {m : Float} → whole 0 ≼ m → m ≼ whole 1 → Bounded half_pi (arcsine_upward m)
unfolding whole half_pi neg div le
upward_bounded l u = bounded (between_range (upward_in l u)) tt

-- of any number from −PI/2 to PI/2
pub arcsine_range : {a : Float} → Number a → Bounded half_pi (arcsine a)
unfolding arcsine
arcsine_range {a} n = go (lt (clamp a) (whole 0)) refl
  where
    r : Bounded (whole 1) (clamp a)
    r = clamp_range n

    go : (b : Bool) → lt (clamp a) (whole 0) ≡ b → Bounded half_pi (cond b (neg (arcsine_upward (neg (clamp a)))) (arcsine_upward (clamp a)))
    go true e =
        let below : clamp a ≼ whole 0 = lt→le (record { holds = rw e tt }) in
        neg_bounded (upward_bounded (le_trans minus_zero (neg-le below)) (rw (neg-neg (whole 1)) at (neg-le r.from)))
    go false e = upward_bounded (le_of_not_lt (bounded_number r) zero_number e) r.to

-- of one not below 0 from 0 on
pub arcsine_up : {a : Float} → whole 0 ≼ a → InRange (whole 0) half_pi (arcsine a)
unfolding arcsine
arcsine_up {a} h =
    let r = clamp_in constants.minus_one zero-le_one h in
    rw (not_below r.from) (between_range (upward_in r.from r.to))

-- and from 0 to PI
pub arccosine_range : {a : Float} → Number a → InRange (whole 0) pi (arccosine a)
unfolding arccosine whole half_pi neg sub div le
arccosine_range {a} n = sub_in (own_range number-half_pi) (as_range (arcsine_range n)) tt

-- so both are numbers
pub arcsine-number : {a : Float} → Number a → Number (arcsine a)
arcsine-number n = bounded_number (arcsine_range n)

pub arccosine-number : {a : Float} → Number a → Number (arccosine a)
arccosine-number n = in_number (arccosine_range n)
