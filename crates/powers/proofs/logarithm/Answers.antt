-- `logarithm` meets its contract: each turn of the loop is a step of the series.
use Rattle.std.proofs.Common.{◌≡◌, ℕ, ◌+◌, ◌-◌, ◌*◌, ◌<◌, ◌≤◌, ◌∙◌, slice_index_or, refl, ap, arith}
use lib.Ieee.{Float, nan, of_bits}
use Rattle.doubles.specs.Arithmetic.{whole, ◌⊕◌, ◌⊖◌, ◌⊘◌, ◌⊗◌}
use Rattle.doubles.specs.Series.{horner}
use Rattle.doubles.proofs.Series.{steps_down, step_at, horner_turn, horner_end}
use Rattle.powers.specs.Power.{logarithm_step, logarithm_of}
use Rattle.powers.proofs.Terms.{term_step}
use Rattle.powers.proofs.logarithm.Goals as goal

-- what the table has for term n
divisor : ℕ → Float
unfolding whole
divisor n = whole (2 * (n - 1) + 1)

next : (z h r : Float) (i : ℕ) → i < 11 → horner (term_step z) (11 - i) h ≡ r
    → horner (term_step z) (11 - (i + 1)) (whole 1 ⊘ slice_index_or (steps_down divisor 11) i nan ⊕ (z ⊗ z) ⊗ h) ≡ r
unfolding logarithm_step divisor
next z h r i l e =
    ap (λ (p : Float). horner (term_step z) (11 - (i + 1)) (whole 1 ⊘ p ⊕ (z ⊗ z) ⊗ h)) (step_at divisor nan 11 i l) ∙ horner_turn (term_step z) 11 i h r l e

pub loop-divisor-init : goal.loop-divisor-init
unfolding of_bits whole
loop-divisor-init c = refl

pub loop-divisor-preserved : goal.loop-divisor-preserved
unfolding divisor of_bits whole
loop-divisor-preserved c = let l : c.loop-divisor.divisor-index < 11 = omega arith in next _ c.loop-divisor.h _ c.loop-divisor.divisor-index l c.loop-divisor.invariant

pub returns : goal.returns
unfolding logarithm_of horner of_bits whole
returns c =
    let l : 11 ≤ c.loop-divisor.divisor-index = omega arith in
    let z = (c.args.w ⊖ whole 1) ⊘ (c.args.w ⊕ whole 1) in
    rw (horner_end (term_step z) 11 c.loop-divisor.divisor-index c.loop-divisor.h _ l c.loop-divisor.invariant) refl
