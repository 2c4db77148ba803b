use mathlib.Core.List.{List}
use mathlib.Core.Path.{◌≡◌, refl, sym, ◌∙◌, ap, ap₂}
use Prim.Native.Nat.{ℕ, ◌%◌, ◌-◌, ◌/◌}
use native.Mathlib.Nat.{div-one}
use native.Mathlib.Omega.{arith}
use lib.ListN.{set}
use Rattle.hexadecimal.specs.Hexadecimal.{digit, digits, digits_of}
use Rattle.hexadecimal.proofs.DigitSteps.{one_written, one_less}
use Rattle.hexadecimal.proofs.digits_of.Goals as goal

pub loop-n-init : goal.loop-n-init
unfolding digits
loop-n-init c = (sym (div-one _), refl)

pub loop-n-preserved : goal.loop-n-preserved
loop-n-preserved c =
    let q = c.loop-n in (
      ap (λ (r : ℕ). r / 16) q.invariant.0 ∙ one_less c.args.w q.n,
      ap₂ (λ (t : List ℕ) (d : ℕ). set t (15 - q.n) d) q.invariant.1 (c.last_digit.ensures ∙ ap (λ (r : ℕ). digit (r % 16)) q.invariant.0)
          ∙ one_written _ q.n c.args.w (omega arith),
    )

pub returns : goal.returns
unfolding digits_of digits
returns c = let e : c.loop-n.n ≡ 16 = omega arith in c.loop-n.invariant.1 ∙ rw e
