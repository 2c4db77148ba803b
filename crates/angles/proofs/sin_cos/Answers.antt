-- `sin_cos` meets its contract: `Reduction` says what sine and cosine are by a reduced angle, and what they are where there is none.
use Rattle.std.proofs.Common.{◌≤◌, refl, sym, ap, ◌∙◌, arith}
use lib.Ieee.{of_bits}
use Rattle.doubles.specs.Functions.{clamp}
use Rattle.angles.specs.Sine.{sine, sine_at, cosine, cosine_at}
use Rattle.angles.proofs.Reduction.{at_angle, at_none, last_sine, last_cosine}
use Rattle.angles.proofs.sin_cos.Goals as goal

pub returns-in_default : goal.returns-in_default
unfolding sine cosine of_bits
returns-in_default c = (sym (at_none c.args.a sine_at c.in_default.ensures), sym (at_none c.args.a cosine_at c.in_default.ensures))

pub returns-in-0 : goal.returns-in-0
unfolding sine sine_at cosine cosine_at
returns-in-0 c = (
  c.both_clamped.ensures.0 ∙ sym (at_angle c.args.a sine_at c.in-Some.angle 0 c.in-Some.ensures c.sum_both-sums.ensures.0 c.sum_both-sums.ensures.1 c.in-0.is),
  c.both_clamped.ensures.1 ∙ sym (at_angle c.args.a cosine_at c.in-Some.angle 0 c.in-Some.ensures c.sum_both-sums.ensures.0 c.sum_both-sums.ensures.1 c.in-0.is),
)

pub returns-in-1 : goal.returns-in-1
unfolding sine sine_at cosine cosine_at
returns-in-1 c = (
  c.both_clamped-in-1.ensures.0 ∙ sym (at_angle c.args.a sine_at c.in-Some.angle 1 c.in-Some.ensures c.sum_both-sums.ensures.0 c.sum_both-sums.ensures.1 c.in-1.is),
  c.both_clamped-in-1.ensures.1 ∙ sym (at_angle c.args.a cosine_at c.in-Some.angle 1 c.in-Some.ensures c.sum_both-sums.ensures.0 c.sum_both-sums.ensures.1 c.in-1.is),
)

pub returns-in-2 : goal.returns-in-2
unfolding sine sine_at cosine cosine_at
returns-in-2 c = (
  c.both_clamped-in-2.ensures.0 ∙ sym (at_angle c.args.a sine_at c.in-Some.angle 2 c.in-Some.ensures c.sum_both-sums.ensures.0 c.sum_both-sums.ensures.1 c.in-2.is),
  c.both_clamped-in-2.ensures.1 ∙ sym (at_angle c.args.a cosine_at c.in-Some.angle 2 c.in-Some.ensures c.sum_both-sums.ensures.0 c.sum_both-sums.ensures.1 c.in-2.is),
)

pub returns-in_default-quadrant : goal.returns-in_default-quadrant
unfolding sine cosine
returns-in_default-quadrant c =
    let q = c.in-Some.angle.quadrant in
    let l : 3 ≤ q = omega arith in (
      c.both_clamped-in_default-quadrant.ensures.0
          ∙ ap clamp (sym (last_sine q _ _ l))
          ∙ sym (at_angle c.args.a sine_at c.in-Some.angle q c.in-Some.ensures c.sum_both-sums.ensures.0 c.sum_both-sums.ensures.1 refl),
      c.both_clamped-in_default-quadrant.ensures.1
          ∙ ap clamp (sym (last_cosine q _ _ l))
          ∙ sym (at_angle c.args.a cosine_at c.in-Some.angle q c.in-Some.ensures c.sum_both-sums.ensures.0 c.sum_both-sums.ensures.1 refl),
    )
