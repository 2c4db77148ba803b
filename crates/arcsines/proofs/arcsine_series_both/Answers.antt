-- `arcsine_series_both` meets its contract: each turn of the loop is a step of both series.
use Rattle.std.proofs.Common.{◌≡◌, ℕ, ◌+◌, ◌-◌, ◌*◌, ◌^◌, ◌<◌, ◌≤◌, ◌∙◌, slice_index_or, refl, ap, arith}
use lib.Ieee.{Float, nan, of_bits}
use Rattle.doubles.specs.Arithmetic.{whole, ◌⊕◌, ◌⊘◌, ◌⊗◌}
use Rattle.doubles.specs.Series.{horner}
use Rattle.doubles.proofs.Series.{steps_down, step_at, horner_turn, horner_end}
use Rattle.arcsines.specs.Arcsine.{arcsine_step, arcsine_series}
use Rattle.arcsines.proofs.arcsine_series_both.Goals as goal

-- what the table has for step n
numbers : ℕ → Float × Float
unfolding whole
numbers n = (whole ((2 * n - 1) ^ 2), whole (2 * n * (2 * n + 1)))

next : (t h r : Float) (i : ℕ) → i < 24 → horner (arcsine_step t) (24 - i) h ≡ r
    → (let p = slice_index_or (steps_down numbers 24) i (nan, nan) in horner (arcsine_step t) (24 - (i + 1)) (whole 1 ⊕ ((t ⊗ p.0) ⊘ p.1) ⊗ h)) ≡ r
unfolding arcsine_step numbers
next t h r i l e =
    ap (λ (p : Float × Float). horner (arcsine_step t) (24 - (i + 1)) (whole 1 ⊕ ((t ⊗ p.0) ⊘ p.1) ⊗ h)) (step_at numbers (nan, nan) 24 i l)
    ∙ horner_turn (arcsine_step t) 24 i h r l e

pub loop-factor-init : goal.loop-factor-init
unfolding of_bits whole
loop-factor-init c = record { first = refl; second = refl }

pub loop-factor-preserved : goal.loop-factor-preserved
unfolding numbers of_bits whole
loop-factor-preserved c =
    let l : c.loop-factor.factor-index < 24 = omega arith in
    record {
      first = next (c.args.a ⊗ c.args.a) c.loop-factor.h _ c.loop-factor.factor-index l c.loop-factor.invariant.first;
      second = next (c.args.b ⊗ c.args.b) c.loop-factor.k _ c.loop-factor.factor-index l c.loop-factor.invariant.second;
    }

pub returns : goal.returns
unfolding arcsine_series
returns c =
    let l : 24 ≤ c.loop-factor.factor-index = omega arith in
    let first = horner_end (arcsine_step (c.args.a ⊗ c.args.a)) 24 c.loop-factor.factor-index c.loop-factor.h _ l c.loop-factor.invariant.first in
    let second = horner_end (arcsine_step (c.args.b ⊗ c.args.b)) 24 c.loop-factor.factor-index c.loop-factor.k _ l c.loop-factor.invariant.second in
    rw (first, second) refl
