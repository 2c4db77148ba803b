use mathlib.Core.Path.{sym, ◌∙◌}
use native.Mathlib.Omega.{arith}
use Rattle.lines.proofs.Values.{not_long, not_parted, not_read, one_read, all_read}
use Rattle.lines.proofs.line.values.Goals as goal
use Rattle.lines.proofs.line.values.Goals.{then-line-ne-LINE_LENGTH-via-then-line-ne-LINE_LENGTH, then-line-ne-LINE_LENGTH-via-else-line-ne-LINE_LENGTH+then-not-spaces_fine}

pub returns-then-line-ne-LINE_LENGTH : goal.returns-then-line-ne-LINE_LENGTH
returns-then-line-ne-LINE_LENGTH c = elim c.then-line-ne-LINE_LENGTH.branch [
  | then-line-ne-LINE_LENGTH-via-then-line-ne-LINE_LENGTH w ↦ sym (not_long _ w.if-line-ne-LINE_LENGTH.true)
  | then-line-ne-LINE_LENGTH-via-else-line-ne-LINE_LENGTH+then-not-spaces_fine w ↦ sym (not_parted _ (sym w.spaces_fine.ensures ∙ w.if-not-spaces_fine.true))
]

pub returns-in_err-digits_at : goal.returns-in_err-digits_at
returns-in_err-digits_at c = c.from_residual.ensures ∙ sym (not_read _ c.loop-k.k (omega arith) (sym c.in_err-digits_at.ensures))

pub loop-k-preserved : goal.loop-k-preserved
loop-k-preserved c =
    one_read _ _ _ c.loop-k.invariant c.in_ok-digits_at.field-0 c.f64_from_bits_with_nan.result (omega arith) (sym c.in_ok-digits_at.ensures)
    c.f64_from_bits_with_nan.ensures

pub returns : goal.returns
returns c = all_read _ _ _ c.loop-k.invariant (omega arith) (omega arith) (sym c.spaces_fine.ensures ∙ c.if-not-spaces_fine.false)
