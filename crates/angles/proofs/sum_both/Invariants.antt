-- What is left of both series, from the sums so far, comes to the whole.
use Rattle.std.proofs.Common.{◌≡◌, ◌-◌}
use Rattle.doubles.specs.Series.{horner}
use Rattle.angles.specs.Sine.{sine_step, cosine_step, sine_sum, cosine_sum}
use Rattle.angles.proofs.sum_both.Given as goal

abbrev pub invariant-loop-in_sine : goal.invariant-loop-in_sine
invariant-loop-in_sine l = record {
  sine : horner (sine_step l.t) (8 - l.in_sine-index) l.sine ≡ sine_sum l.t;
  cosine : horner (cosine_step l.t) (8 - l.in_sine-index) l.cosine ≡ cosine_sum l.t;
}
