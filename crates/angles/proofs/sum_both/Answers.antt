-- `sum_both` meets its contract: each turn of the loop is a step of both series.
use Rattle.std.proofs.Common.{◌≡◌, ℕ, ◌+◌, ◌-◌, ◌*◌, ◌<◌, ◌≤◌, ◌∙◌, slice_index_or, refl, ap, arith}
use lib.Ieee.{Float, nan, of_bits}
use Rattle.doubles.specs.Arithmetic.{whole, ◌⊖◌, ◌⊘◌, ◌⊗◌}
use Rattle.doubles.specs.Series.{horner}
use Rattle.doubles.proofs.Series.{steps_down, step_at, horner_turn, horner_end}
use Rattle.angles.specs.Sine.{sine_step, cosine_step, sine_sum, cosine_sum}
use Rattle.angles.proofs.sum_both.Goals as goal

-- what the table has for step n
divisors : ℕ → Float × Float
unfolding whole
divisors n = (whole (2 * n * (2 * n + 1)), whole ((2 * n - 1) * (2 * n)))

pub loop-in_sine-init : goal.loop-in_sine-init
unfolding sine_sum cosine_sum of_bits whole
loop-in_sine-init c = record { sine = refl; cosine = refl }

next_sine : (t h : Float) (i : ℕ) → i < 8 → horner (sine_step t) (8 - i) h ≡ sine_sum t
    → horner (sine_step t) (8 - (i + 1)) (whole 1 ⊖ (t ⊘ (slice_index_or (steps_down divisors 8) i (nan, nan)).0) ⊗ h) ≡ sine_sum t
unfolding sine_step divisors
next_sine t h i l e =
    ap (λ (p : Float × Float). horner (sine_step t) (8 - (i + 1)) (whole 1 ⊖ (t ⊘ p.0) ⊗ h)) (step_at divisors (nan, nan) 8 i l) ∙ horner_turn (sine_step t) 8 i h (sine_sum t) l e

next_cosine : (t h : Float) (i : ℕ) → i < 8 → horner (cosine_step t) (8 - i) h ≡ cosine_sum t
    → horner (cosine_step t) (8 - (i + 1)) (whole 1 ⊖ (t ⊘ (slice_index_or (steps_down divisors 8) i (nan, nan)).1) ⊗ h) ≡ cosine_sum t
unfolding cosine_step divisors
next_cosine t h i l e =
    ap (λ (p : Float × Float). horner (cosine_step t) (8 - (i + 1)) (whole 1 ⊖ (t ⊘ p.1) ⊗ h)) (step_at divisors (nan, nan) 8 i l) ∙ horner_turn (cosine_step t) 8 i h (cosine_sum t) l e

pub loop-in_sine-preserved : goal.loop-in_sine-preserved
unfolding divisors of_bits whole
loop-in_sine-preserved c =
    let l : c.loop-in_sine.in_sine-index < 8 = omega arith in
    record {
      sine = next_sine c.args.t c.loop-in_sine.sine c.loop-in_sine.in_sine-index l c.loop-in_sine.invariant.sine;
      cosine = next_cosine c.args.t c.loop-in_sine.cosine c.loop-in_sine.in_sine-index l c.loop-in_sine.invariant.cosine;
    }

pub returns : goal.returns
returns c =
    let l : 8 ≤ c.loop-in_sine.in_sine-index = omega arith in (
      horner_end (sine_step c.args.t) 8 c.loop-in_sine.in_sine-index c.loop-in_sine.sine (sine_sum c.args.t) l c.loop-in_sine.invariant.sine,
      horner_end (cosine_step c.args.t) 8 c.loop-in_sine.in_sine-index c.loop-in_sine.cosine (cosine_sum c.args.t) l c.loop-in_sine.invariant.cosine,
    )
