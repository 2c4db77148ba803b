-- Why a run ends: a step of at least a quarter of an hour moves a time past the next whole quarter, rounded or not, since a whole
-- quarter is a double. Assumes nothing.
use Rattle.std.proofs.Common.{◌≡◌, ℕ, ◌+◌, ◌*◌, ◌/◌, ◌^◌, ◌<◌, ◌≤◌, true, false, T, sym, refl, ap, ◌∙◌, true≢false, lt_of_lt_of_le, mul-le-mul_right, mul_assoc, mul-pos, le-div_iff_mul-le, div-mul-le_self, le_of_mul-le-mul_right, arith, lit<, lit≤, pow_mono, pow-add, shl_lt}
use native.Mathlib.Nat.{div-le_of_le-mul}
use lib.Ieee.{Float, nan, inf, fin, binary64, up, down, round}
use lib.Ieee.Exact.{HasValue, round_exact}
use lib.Ieee.Fits.{down_pos}
use lib.Ieee.Positive.{den, den_pos}
use lib.Ieee.Scale.{finite}
use Rattle.doubles.specs.Arithmetic.{◌⊕◌, whole, decimal}
use Rattle.doubles.specs.Order.{◌≼◌, Finite}
use Rattle.doubles.proofs.Order.{positive_part, negative_part, le→cross}
use Rattle.doubles.proofs.Rounding.{plus, rounded_mono, add_rounds}
use Rattle.doubles.proofs.Monotone.{no_negative_part}

-- how many whole quarters of an hour have passed
unfoldable pub quarters : Float → ℕ
quarters time = positive_part time * 4 / den time

-- k quarters are a double
quarter_value : (k : ℕ) → k < 2 ^ 53 → HasValue (round binary64 false k 4) false k 4
quarter_value k h =
    round_exact binary64 false k 4 k 1072 (lit< tt) h (lt_of_lt_of_le (shl_lt 53 1072 h) (pow_mono {i = 1125} {j = 2098} (lit≤ tt)))
    (ap (λ (x : ℕ). k * x) (pow-add 2 1072 2) ∙ sym (mul_assoc k (2 ^ 1072) (2 ^ 2)))

-- a time that is not below k quarters
quarters_above : (q z : Float) (k : ℕ) → HasValue q false k 4 → T (finite z) → q ≼ z → k ≤ quarters z
unfolding quarters
quarters_above nan z k v f h = absurd v
quarters_above (inf s) z k v f h = absurd v
quarters_above (fin true m e) z k v f h = absurd (true≢false v.0)
quarters_above (fin false m e) z k v f h =
    (le-div_iff_mul-le (den_pos z)).1
    (le_of_mul-le-mul_right {k = down e}
    (crossed (m * up e) (down e) (positive_part z) (negative_part z) (den z) k v.1 (le→cross {x = fin false m e} {y = z} (record { holds = tt }) (record { holds = f }) h))
    (down_pos e))
  where
    crossed : (a c p n d k : ℕ) → a * 4 ≡ k * c → a * d + n * c ≤ p * c + 0 * d → k * d * c ≤ p * 4 * c
    crossed a c p n d k v h = omega (arith, ap (λ (x : ℕ). x * d) v)

module _ {time step : Float} (f : Finite time) (g : Finite step) (h : whole 0 ≼ time) (l : decimal 25 2 ≼ step) where
  step_low : den step ≤ positive_part step * 4 + negative_part step * 4
  unfolding decimal
  step_low = omega (arith, le→cross {x = decimal 25 2} {y = step} (record { holds = tt }) g l)

  past_quarter : whole 0 ≼ step → round binary64 false (quarters time + 1) 4 ≼ time ⊕ step
  unfolding quarters
  past_quarter s =
      let k = quarters time in
      rounded_mono (round binary64 false (k + 1) 4) (time ⊕ step) (k + 1) 0 4
      (positive_part time * den step + positive_part step * den time) (negative_part time * den step + negative_part step * den time) (den time * den step)
      (lit< tt) (mul-pos (den_pos time) (den_pos step))
      (plus (k + 1) (omega arith) refl) (add_rounds time step f.holds g.holds)
      (more (positive_part time) (negative_part time) (den time) (positive_part step) (negative_part step) (den step) k
      (no_negative_part time f.holds h) (no_negative_part step g.holds s) (div-mul-le_self (positive_part time * 4) (den time)) step_low)
    where
      more : (p n d p' n' d' k : ℕ) → n ≡ 0 → n' ≡ 0 → k * d ≤ p * 4 → d' ≤ p' * 4 + n' * 4 → (k + 1) * (d * d') + (n * d' + n' * d) * 4 ≤ (p * d' + p' * d) * 4 + 0 * (d * d')
      more p n d p' n' d' k N N' h l = rw (N, N') (omega (arith, mul-le-mul_right d' h, mul-le-mul_right d (rw N' at l)))

  pub quarters_grow : whole 0 ≼ step → Finite (time ⊕ step) → quarters time < 2 ^ 40 → quarters time < quarters (time ⊕ step)
  quarters_grow s z b =
      let few : quarters time + 1 < 2 ^ 53 = omega arith in
      let up : quarters time + 1 ≤ quarters (time ⊕ step) = quarters_above (round binary64 false (quarters time + 1) 4) (time ⊕ step) (quarters time + 1) (quarter_value (quarters time + 1) few) z.holds (past_quarter s) in
      omega arith

-- a year has 35,136 quarters of an hour
pub quarters_few : {time : Float} → Finite time → whole 0 ≼ time → time ≼ whole 8784 → quarters time ≤ 35136
unfolding quarters whole
quarters_few {time} f h l =
    div-le_of_le-mul (den time)
    (upper (positive_part time) (negative_part time) (den time) (no_negative_part time f.holds h) (le→cross {x = time} {y = whole 8784} f (record { holds = tt }) l))
  where
    upper : (p n d : ℕ) → n ≡ 0 → p * 1 + 0 * d ≤ 549 * 16 * d + n * 1 → p * 4 ≤ d * 35136
    upper p n d N h = omega arith
