use mathlib.Core.Path.{sym, ◌∙◌}
use Prim.Native.Nat.{◌≤◌, ◌<◌}
use native.Mathlib.Omega.{arith}
use lib.ListN.{length, drop_of_length-le}
use Rattle.hexadecimal.specs.Hexadecimal.{read_digits}
use Rattle.hexadecimal.proofs.DigitSteps.{one_read, none_read, digit_below, counts_below, counts_fit}
use Rattle.hexadecimal.proofs.word_of.Goals as goal

pub overflow_mul-word : goal.overflow_mul-word
overflow_mul-word c =
    let q = c.loop-b in
    let h : c.in_ok-d.d < 16 = digit_below _ c.in_ok-d.d (sym c.in_ok-d.ensures) in
    omega (arith, counts_below q.b-index q.word c.in_ok-d.d q.invariant.1 h, counts_fit q.b-index (omega arith))

pub overflow_add-word : goal.overflow_add-word
overflow_add-word c =
    let q = c.loop-b in
    let h : c.in_ok-d.d < 16 = digit_below _ c.in_ok-d.d (sym c.in_ok-d.ensures) in
    omega (arith, counts_below q.b-index q.word c.in_ok-d.d q.invariant.1 h, counts_fit q.b-index (omega arith))

pub returns-in_err-d : goal.returns-in_err-d
returns-in_err-d c =
    let q = c.loop-b in
    c.from_residual.ensures ∙ sym (q.invariant.0 ∙ none_read _ q.b-index q.word (omega arith) (sym c.in_err-d.ensures))

pub loop-b-preserved : goal.loop-b-preserved
loop-b-preserved c =
    let q = c.loop-b in
    let e = sym c.in_ok-d.ensures in (
      q.invariant.0 ∙ one_read _ q.b-index q.word (omega arith) c.in_ok-d.d e,
      counts_below q.b-index q.word c.in_ok-d.d q.invariant.1 (digit_below _ c.in_ok-d.d e),
    )

pub returns : goal.returns
unfolding read_digits
returns c =
    let h : length c.args.digits.now ≤ c.loop-b.b-index = omega arith in
    sym (c.loop-b.invariant.0 ∙ rw drop_of_length-le)
