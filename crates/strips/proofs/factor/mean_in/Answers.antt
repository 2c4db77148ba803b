-- `mean_in` meets its contract: strip by strip, and at the end.
use Rattle.std.proofs.Common.{Ok, sym, ap, ◌∙◌}
use Rattle.std.proofs.lemmas.Result.{err_from_is_err_and}
use lib.Ieee.{of_bits}
use Rattle.shading.specs.Factor.{factor_in}
use Rattle.strips.specs.Strips.{mean_factor}
use Rattle.strips.proofs.Loops.{left_all, mean_next, mean_refused, mean_end}
use Rattle.strips.proofs.factor.mean_in.Goals as goal

pub loop-i-init : goal.loop-i-init
unfolding mean_factor of_bits
loop-i-init c =
    let a = c.args in
    ap (mean_factor (λ strip. factor_in strip a.sun a.window.now (Ok a.segment.now))) (left_all a.glazing a.heights.now c.word_count-i-end.result c.word_count-i-end.ensures)

pub returns-in_err-factor : goal.returns-in_err-factor
returns-in_err-factor c =
    let l = c.loop-i in
    let a = c.args in
    let p = err_from_is_err_and c.from_residual.result c.from_residual.ensures.1 in
    rw (p.1, p.2)
    (mean_refused a.glazing a.heights.now c.word_count-i-end.result l.i l.base (λ strip. factor_in strip a.sun a.window.now (Ok a.segment.now)) l.weighted l.total _ _ _
    c.double_at-height.ensures c.strip_of.ensures c.factor_in.ensures c.loop-i-test.true _ c.in_err-factor.was
    ∙ l.invariant)

pub loop-i-preserved : goal.loop-i-preserved
loop-i-preserved c =
    let l = c.loop-i in
    let a = c.args in
    mean_next a.glazing a.heights.now c.word_count-i-end.result l.i l.base (λ strip. factor_in strip a.sun a.window.now (Ok a.segment.now)) l.weighted l.total _ _ _
    c.double_at-height.ensures c.strip_of.ensures c.factor_in.ensures c.loop-i-test.true _ c.in_ok-factor.was
    ∙ l.invariant

pub returns : goal.returns
returns c =
    let l = c.loop-i in
    let a = c.args in
    sym (mean_end a.glazing a.heights.now c.word_count-i-end.result l.i l.base (λ strip. factor_in strip a.sun a.window.now (Ok a.segment.now)) l.weighted l.total c.loop-i-test.false)
    ∙ l.invariant
