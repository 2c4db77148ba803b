-- From 0 to a quarter turn, PI/2 as a double: a cosine is above 0, a sine not below 0 and above it where its angle is, and so a tangent
-- is not below 0. Assumes nothing.
use Rattle.std.proofs.Common.{◌≡◌, ℕ, zero, suc, ◌+◌, ◌-◌, ◌*◌, ◌%◌, ◌^◌, ◌≤◌, Bool, true, false, ◌&&◌, T, ◌⊎◌, refl, ap, ◌∙◌, inl, inr, lt_irrefl, arith}
use lib.Ieee.{Float, neg, add, sub, mul, div, lt, le, is_nan, to_unsigned}
use lib.Ieee.Bits.{is_true}
use Rattle.doubles.specs.Arithmetic.{◌⊕◌, ◌⊖◌, ◌⊗◌, ◌⊘◌, decimal, whole, bits}
use Rattle.doubles.specs.Functions.{clamp, pi, to_radians}
use Rattle.doubles.specs.Series.{horner}
use Rattle.doubles.specs.Order.{◌≼◌, ◌≺◌, InRange, Bounded, Number, Finite}
use Rattle.doubles.proofs.Order.{le_trans, lt→le, lt-le_trans, le_of_not_lt, neg-le, neg-neg, both}
use Rattle.doubles.proofs.Bounds.{one_number}
use Rattle.doubles.proofs.Casts.{cast_mono}
use Rattle.doubles.proofs.Clamping.{clamp_in}
use Rattle.doubles.proofs.Intervals.{holds_ends, in_number, in_finite, own_range, mul_turned, square_turned, widen, add_in, sub_in, mul_in, div_in, div_by_in, bounded, tests, tested, horner_in}
use Rattle.doubles.proofs.Ranges.{both_of}
use Rattle.angles.specs.Sine.{is_angle, quarter_turns, remainder, sine_step, cosine_step, sine_sum, cosine_sum, sine_series, cosine_series, sine_at, cosine_at, sine, cosine, tangent, of_angle}
use Rattle.angles.proofs.Turns.{floor_up, quadrant_up}
use Rattle.angles.proofs.Reduction.{unfloored, unfloored_small, unfloored_fits}
use Rattle.angles.proofs.Laws.{is_angle_lem}

-- PI/2 as a double
abbrev pub quarter_turn : Float
quarter_turn = bits 0x3FF921FB54442D18

-- ---- the brackets of both series, for t from 0 to 1.2

abbrev most : Float
most = decimal 12 1

-- t/d, for a divisor above 0, and then (t/d)·h, lies from 0 to 0.6
step_test : Float → Bool
unfolding whole decimal mul div lt le
step_test d = lt (whole 0) d && holds_ends (whole 0) most d d (whole 0) (whole 0 ⊘ d) (most ⊘ d) (decimal 6 1)

step_in : (t h d : Float) → T (step_test d) → InRange (whole 0) most t → InRange (decimal 4 1) (whole 1) h → InRange (decimal 4 1) (whole 1) (whole 1 ⊖ (t ⊘ d) ⊗ h)
unfolding step_test whole decimal neg sub mul le
step_in t h d z r s =
    let b = both_of (lt (whole 0) d) (holds_ends (whole 0) most d d (whole 0) (whole 0 ⊘ d) (most ⊘ d) (decimal 6 1)) z in
    let q : InRange (whole 0) (decimal 6 1) (t ⊘ d) = div_in d r b.0 b.1 in
    let m : InRange (whole 0) (decimal 6 1) ((t ⊘ d) ⊗ h) = mul_in q s tt tt in
    sub_in (own_range one_number) m tt

one_in : InRange (decimal 4 1) (whole 1) (whole 1)
unfolding whole decimal le
one_in = widen (own_range one_number) tt

-- by the divisors of either series
sum_in : (divisor : ℕ → ℕ) {t : Float} → T (tests (λ n. step_test (whole (divisor n))) 8) → InRange (whole 0) most t
    → InRange (decimal 4 1) (whole 1) (horner (λ n h. whole 1 ⊖ (t ⊘ whole (divisor n)) ⊗ h) 8 (whole 1))
sum_in divisor {t} passed r =
    horner_in (λ n h. whole 1 ⊖ (t ⊘ whole (divisor n)) ⊗ h) 8
    (λ k l x s. step_in t x (whole (divisor (suc k))) (tested (λ n. step_test (whole (divisor n))) 8 passed k l) r s) (whole 1) one_in

sine_sum_in : {t : Float} → InRange (whole 0) most t → InRange (decimal 4 1) (whole 1) (sine_sum t)
unfolding sine_sum sine_step tests step_test
sine_sum_in r = sum_in (λ n. 2 * n * (2 * n + 1)) tt r

cosine_sum_in : {t : Float} → InRange (whole 0) most t → InRange (decimal 4 1) (whole 1) (cosine_sum t)
unfolding cosine_sum cosine_step tests step_test
cosine_sum_in r = sum_in (λ n. (2 * n - 1) * (2 * n)) tt r

-- ---- k is 0 up to an angle of 1, or 1 from an angle of 0.5 on

-- what k is the floor of
abbrev value : Float → Float
value x = x ⊗ bits 0x3FE45F306DC9C883 ⊕ decimal 5 1

abbrev per_radian : Float
per_radian = bits 0x3FE45F306DC9C883

-- by tests of the angle's ends
value_in : {l h a b x : Float} → InRange a b x → T (le (whole 0) a && le (whole 0) per_radian)
    → T (holds_ends a b per_radian per_radian (a ⊗ per_radian) (a ⊗ per_radian) (b ⊗ per_radian) (b ⊗ per_radian))
    → T (holds_ends (a ⊗ per_radian) (b ⊗ per_radian) (decimal 5 1) (decimal 5 1) l (a ⊗ per_radian ⊕ decimal 5 1) (b ⊗ per_radian ⊕ decimal 5 1) h)
    → InRange l h (value x)
unfolding decimal bits is_nan
value_in r zeros product sum = add_in (mul_in r (own_range (record { holds = tt })) zeros product) (own_range (record { holds = tt })) sum

value_range : {x : Float} → InRange (whole 0) quarter_turn x → InRange (decimal 5 1) (decimal 15 1) (value x)
unfolding whole decimal bits add mul le
value_range r = value_in r tt tt tt

value_from_1 : {x : Float} → InRange (whole 1) quarter_turn x → whole 1 ≼ value x
unfolding whole decimal bits add mul le
value_from_1 {x} r = let v : InRange (whole 1) (whole 2) (value x) = value_in r tt tt tt in v.from

value_to_half : {x : Float} → InRange (whole 0) (decimal 5 1) x → value x ≼ decimal 9 1
unfolding whole decimal bits add mul le
value_to_half {x} r = let v : InRange (whole 0) (decimal 9 1) (value x) = value_in r tt tt tt in v.to

cast_1 : to_unsigned 64 (whole 1) ≡ 1
unfolding whole to_unsigned
cast_1 = refl

cast_9 : to_unsigned 64 (decimal 9 1) ≡ 0
unfolding decimal to_unsigned
cast_9 = refl

cast_15 : to_unsigned 64 (decimal 15 1) ≡ 1
unfolding decimal to_unsigned
cast_15 = refl

-- where an angle of the first quarter is, and its k
pub record Place (x : Float) (n : ℕ) (low high : Float) : Type 0 where
  pub turns : quarter_turns x ≡ whole n
  pub range : InRange low high x

module _ {x : Float} (r : InRange (whole 0) quarter_turn x) where
  angle : is_angle x ≡ true
  unfolding whole bits neg le
  angle = let wide : Bounded (whole 64) x = bounded r tt in is_angle_lem wide

  floored : quarter_turns x ≡ whole (to_unsigned 64 (value x))
  unfolding quarter_turns unfloored whole decimal lt
  floored =
      let up : whole 0 ≺ value x = lt-le_trans (record { holds = tt }) (value_range r).from in
      floor_up (value x) (unfloored_fits x) (unfloored_small x angle) (is_true (lt (whole 0) (value x)) up.holds)

  place : Place x 0 (whole 0) (whole 1) ⊎ Place x 1 (decimal 5 1) quarter_turn
  place = go (to_unsigned 64 (value x)) refl
    where
      count : to_unsigned 64 (value x) ≤ 1
      count = rw cast_15 at (cast_mono 64 (value_range r).to)

      half : Number (decimal 5 1)
      half = record { holds = unfold decimal is_nan in tt }

      near : to_unsigned 64 (value x) ≡ 0 → (b : Bool) → lt (whole 1) x ≡ b → x ≼ whole 1
      near e true t = absurd (lt_irrefl 0 (omega (arith, e, rw cast_1 at (cast_mono 64 (value_from_1 (record { from = lt→le (record { holds = rw t tt }); to = r.to }))))))
      near e false t = le_of_not_lt one_number (in_number r) t

      far : to_unsigned 64 (value x) ≡ 1 → (b : Bool) → lt x (decimal 5 1) ≡ b → decimal 5 1 ≼ x
      far e true t = absurd (lt_irrefl 0 (omega (arith, e, rw cast_9 at (cast_mono 64 (value_to_half (record { from = r.from; to = lt→le (record { holds = rw t tt }) }))))))
      far e false t = le_of_not_lt (in_number r) half t

      go : (n : ℕ) → to_unsigned 64 (value x) ≡ n → Place x 0 (whole 0) (whole 1) ⊎ Place x 1 (decimal 5 1) quarter_turn
      go zero e = inl (record { turns = floored ∙ ap whole e; range = record { from = r.from; to = near e (lt (whole 1) x) refl } })
      go (suc zero) e = inr (record { turns = floored ∙ ap whole e; range = record { from = far e (lt x (decimal 5 1)) refl; to = r.to } })
      go (suc (suc n)) e = absurd (lt_irrefl 0 (omega (arith, e, count)))

-- ---- the reduced angle

abbrev first : Float
first = bits 0x3FF921FB54400000

abbrev second : Float
second = bits 0x3DD0B4611A626331

-- k = 0: the angle itself
rest_near : (low : Float) {x : Float} → T (holds_ends low (whole 1) (whole 0) (whole 0) low (low ⊖ whole 0) (whole 1 ⊖ whole 0) (whole 1)) → InRange low (whole 1) x → InRange low (whole 1) (remainder x (whole 0))
unfolding remainder whole bits mul is_nan
rest_near low {x} t r =
    let none : InRange (whole 0) (whole 0) (whole 0) = own_range (record { holds = tt }) in
    let once : InRange low (whole 1) (x ⊖ whole 0) = sub_in r none t in
    sub_in once none t

-- k = 1: at most 6·10⁻¹⁷ below 0, since PI/2 as a double lies below PI/2
abbrev least : Float
least = decimal 6 17

rest_far : {x : Float} → InRange (decimal 5 1) quarter_turn x → InRange (neg (decimal 108 2)) (neg least) (remainder x (whole 1))
unfolding remainder whole decimal bits neg sub mul le is_nan
rest_far {x} r =
    let one : InRange first first (whole 1 ⊗ first) = own_range (record { holds = tt }) in
    let two : InRange second second (whole 1 ⊗ second) = own_range (record { holds = tt }) in
    let once : InRange (neg (decimal 1071 3)) (quarter_turn ⊖ first) (x ⊖ whole 1 ⊗ first) = sub_in r one tt in
    sub_in once two tt

-- ---- both of an angle by its place

by_place : (at : ℕ → Float → Float → Float) {x low high : Float} (n : ℕ) → n ≤ 1000 → InRange (whole 0) quarter_turn x → Place x n low high
    → let r = remainder x (whole n) in of_angle at x ≡ clamp (at (n % 4) (sine_series r) (cosine_series r))
unfolding of_angle
by_place at n l r p = rw (angle r, p.turns, quadrant_up n l) refl

module _ {x low high : Float} (r : InRange (whole 0) quarter_turn x) where
  sine_near : Place x 0 low high → sine x ≡ clamp (sine_series (remainder x (whole 0)))
  unfolding sine sine_at
  sine_near p = by_place sine_at 0 (omega arith) r p

  sine_far : Place x 1 low high → sine x ≡ clamp (cosine_series (remainder x (whole 1)))
  unfolding sine sine_at
  sine_far p = by_place sine_at 1 (omega arith) r p

  cosine_near : Place x 0 low high → cosine x ≡ clamp (cosine_series (remainder x (whole 0)))
  unfolding cosine cosine_at
  cosine_near p = by_place cosine_at 0 (omega arith) r p

  cosine_far : Place x 1 low high → cosine x ≡ clamp (neg (sine_series (remainder x (whole 1))))
  unfolding cosine cosine_at
  cosine_far p = by_place cosine_at 1 (omega arith) r p

-- the square of what is left over
square_near : {y : Float} → InRange (whole 0) (whole 1) y → InRange (whole 0) most (y ⊗ y)
unfolding whole decimal mul le
square_near r = mul_in r r tt tt

-- its opposite, where it is below 0
opposite : {y : Float} → InRange (neg (decimal 108 2)) (neg least) y → InRange least (decimal 108 2) (neg y)
opposite {y} r = record { from = rw (neg-neg least) at (neg-le r.to); to = rw (neg-neg (decimal 108 2)) at (neg-le r.from) }

far_finite : {y : Float} → InRange (neg (decimal 108 2)) (neg least) y → Finite y
unfolding decimal neg
far_finite r = in_finite (record { holds = tt }) (record { holds = tt }) r

square_far : {y : Float} → InRange (neg (decimal 108 2)) (neg least) y → InRange (whole 0) most (y ⊗ y)
unfolding whole decimal mul le
square_far {y} r =
    let q : InRange (whole 0) most (neg y ⊗ neg y) = mul_in (opposite r) (opposite r) tt tt in
    rw (square_turned y (far_finite r).holds) at q

far_product : {a b : Float} → InRange (decimal 4 1) (whole 1) a → InRange least (decimal 108 2) b → InRange (decimal 2 17) (decimal 108 2) (a ⊗ b)
unfolding whole decimal mul le
far_product p q = mul_in p q tt tt

sum_finite : {a : Float} → InRange (decimal 4 1) (whole 1) a → Finite a
unfolding whole decimal
sum_finite r = in_finite (record { holds = tt }) (record { holds = tt }) r

-- ---- the cosine is above 0

minus_one : neg (whole 1) ≼ decimal 2 17
unfolding whole decimal neg le
minus_one = record { holds = tt }

below_one : decimal 2 17 ≼ whole 1
unfolding whole decimal le
below_one = record { holds = tt }

below_sum : decimal 2 17 ≼ decimal 4 1
unfolding decimal le
below_sum = record { holds = tt }

-- from 2·10⁻¹⁷ to 1
pub cosine_in : {x : Float} → InRange (whole 0) quarter_turn x → InRange (decimal 2 17) (whole 1) (cosine x)
cosine_in {x} r = elim (place r) [ inl p ↦ near p | inr p ↦ far p ]
  where
    near : Place x 0 (whole 0) (whole 1) → InRange (decimal 2 17) (whole 1) (cosine x)
    near p =
        let rest : InRange (whole 0) (whole 1) (remainder x (whole 0)) = rest_near (whole 0) (unfold whole sub le in tt) p.range in
        let c = cosine_sum_in (square_near rest) in
        rw (cosine_near r p) (unfold cosine_series in clamp_in minus_one below_one (le_trans below_sum c.from))

    far : Place x 1 (decimal 5 1) quarter_turn → InRange (decimal 2 17) (whole 1) (cosine x)
    far p =
        let y = remainder x (whole 1) in
        let rest : InRange (neg (decimal 108 2)) (neg least) y = rest_far p.range in
        let s = sine_sum_in (square_far rest) in
        let product : InRange (decimal 2 17) (decimal 108 2) (sine_sum (y ⊗ y) ⊗ neg y) = far_product s (opposite rest) in
        let turned : sine_sum (y ⊗ y) ⊗ neg y ≡ neg (sine_sum (y ⊗ y) ⊗ y) = (mul_turned (sine_sum (y ⊗ y)) y (sum_finite s).holds (far_finite rest).holds).1 in
        let low : decimal 2 17 ≼ neg (sine_sum (y ⊗ y) ⊗ y) = rw turned at product.from in
        rw (cosine_far r p) (unfold sine_series in clamp_in minus_one below_one low)

-- ---- the sine is not below 0, and above it where the angle is

-- from `out` to 1, for an angle from `low` on: the tests say that `low` is not below 0 and that `out` is at most 0.4 · low, and at most 0.4
pub sine_in : (low out : Float) {x : Float} → T (le (whole 0) low)
    → T (holds_ends low (whole 1) (whole 0) (whole 0) low (low ⊖ whole 0) (whole 1 ⊖ whole 0) (whole 1))
    → T (holds_ends (decimal 4 1) (whole 1) low (whole 1) out (decimal 4 1 ⊗ low) (whole 1 ⊗ whole 1) (whole 1))
    → T (le (neg (whole 1)) out && le out (decimal 4 1))
    → InRange low quarter_turn x → InRange out (whole 1) (sine x)
sine_in low out {x} start same product bounds q = elim (place r) [ inl p ↦ near p | inr p ↦ far p ]
  where
    low_up : whole 0 ≼ low
    low_up = record { holds = start }

    r : InRange (whole 0) quarter_turn x
    r = record { from = le_trans low_up q.from; to = q.to }

    out_low : neg (whole 1) ≼ out
    out_low = record { holds = (both_of (le (neg (whole 1)) out) (le out (decimal 4 1)) bounds).0 }

    out_sum : out ≼ decimal 4 1
    out_sum = record { holds = (both_of (le (neg (whole 1)) out) (le out (decimal 4 1)) bounds).1 }

    out_one : out ≼ whole 1
    out_one = le_trans out_sum (record { holds = unfold whole decimal le in tt })

    zeros : T (le (whole 0) (decimal 4 1) && le (whole 0) low)
    zeros = both (le (whole 0) (decimal 4 1)) (le (whole 0) low) (unfold whole decimal le in tt) start

    near : Place x 0 (whole 0) (whole 1) → InRange out (whole 1) (sine x)
    near p =
        let y = remainder x (whole 0) in
        let rest : InRange low (whole 1) y = rest_near low same (record { from = q.from; to = p.range.to }) in
        let up : InRange (whole 0) (whole 1) y = record { from = le_trans low_up rest.from; to = rest.to } in
        let s : InRange out (whole 1) (sine_sum (y ⊗ y) ⊗ y) = mul_in (sine_sum_in (square_near up)) rest zeros product in
        rw (sine_near r p) (unfold sine_series in clamp_in out_low out_one s.from)

    far : Place x 1 (decimal 5 1) quarter_turn → InRange out (whole 1) (sine x)
    far p =
        let c = cosine_sum_in (square_far (rest_far p.range)) in
        rw (sine_far r p) (unfold cosine_series in clamp_in out_low out_one (le_trans out_sum c.from))

-- ---- of degrees, and the tangent

abbrev per_degree : Float
per_degree = pi ⊘ whole 180

-- degrees up to 90 in radians, by tests of the least
pub radians_from : (low angle : Float) {a : Float} → T (le (whole 0) low && le (whole 0) per_degree)
    → T (holds_ends low (whole 90) per_degree per_degree angle (low ⊗ per_degree) (whole 90 ⊗ per_degree) quarter_turn) → InRange low (whole 90) a → InRange angle quarter_turn (to_radians a)
unfolding to_radians whole div is_nan
radians_from low angle zeros product r = mul_in r (own_range (record { holds = tt })) zeros product

-- the largest is 1 over the least cosine
abbrev pub most_tangent : Float
most_tangent = whole (6 * 10 ^ 16)

tangent_in : {x : Float} → InRange (whole 0) quarter_turn x → InRange (whole 0) most_tangent (tangent x)
unfolding tangent whole decimal neg sub mul div lt le
tangent_in r = div_by_in (sine_in (whole 0) (whole 0) tt tt tt tt r) (cosine_in r) tt tt

pub tangent_up : {a : Float} → InRange (whole 0) (whole 90) a → InRange (whole 0) most_tangent (tangent (to_radians a))
unfolding whole bits pi mul div le
tangent_up r = tangent_in (radians_from (whole 0) (whole 0) tt tt r)
