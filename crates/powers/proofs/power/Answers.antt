-- `power` meets its contract: each turn of the loop is a step of the series.
use Rattle.std.proofs.Common.{◌≡◌, ℕ, ◌+◌, ◌-◌, ◌<◌, ◌≤◌, ◌∙◌, slice_index_or, refl, ap, arith}
use lib.Ieee.{Float, nan, of_bits, neg}
use Rattle.doubles.specs.Arithmetic.{decimal, whole, ◌⊕◌, ◌⊘◌, ◌⊗◌}
use Rattle.doubles.specs.Series.{horner}
use Rattle.doubles.proofs.Series.{steps_down, step_at, horner_turn, horner_end}
use Rattle.powers.specs.Power.{exponential_step, power_of}
use Rattle.powers.proofs.power.Goals as goal

next : (v h r : Float) (i : ℕ) → i < 16 → horner (exponential_step v) (16 - i) h ≡ r
    → horner (exponential_step v) (16 - (i + 1)) (whole 1 ⊕ (v ⊘ slice_index_or (steps_down whole 16) i nan) ⊗ h) ≡ r
unfolding exponential_step
next v h r i l e =
    ap (λ (p : Float). horner (exponential_step v) (16 - (i + 1)) (whole 1 ⊕ (v ⊘ p) ⊗ h)) (step_at whole nan 16 i l) ∙ horner_turn (exponential_step v) 16 i h r l e

pub loop-divisor-init : goal.loop-divisor-init
unfolding of_bits whole
loop-divisor-init c = refl

pub loop-divisor-preserved : goal.loop-divisor-preserved
unfolding of_bits whole
loop-divisor-preserved c = let l : c.loop-divisor.divisor-index < 16 = omega arith in next _ c.loop-divisor.h _ c.loop-divisor.divisor-index l c.loop-divisor.invariant

pub returns : goal.returns
unfolding power_of of_bits neg decimal whole
returns c =
    let l : 16 ≤ c.loop-divisor.divisor-index = omega arith in
    let v = (neg (decimal 1253 3) ⊗ c.args.l) ⊘ whole 16 in
    rw (horner_end (exponential_step v) 16 c.loop-divisor.divisor-index c.loop-divisor.h _ l c.loop-divisor.invariant) refl
