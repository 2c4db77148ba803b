use Rattle.std.proofs.Common.{refl, sym, ap, ◌∙◌}
use Rattle.strips.specs.Strips.{all_fine, strips_fine}
use Rattle.strips.proofs.Loops.{left_all, fine_next, fine_end}
use Rattle.strips.proofs.glazing.strips_fine.Goals as goal

pub returns-then-not-count_fine : goal.returns-then-not-count_fine
unfolding strips_fine
returns-then-not-count_fine c = rw (← c.count_fine.ensures, c.if-not-count_fine.true) refl

pub loop-i-init : goal.loop-i-init
loop-i-init c = ap all_fine (left_all c.args.glazing c.args.heights.now c.word_count-i-end.result c.word_count-i-end.ensures)

pub loop-i-preserved : goal.loop-i-preserved
loop-i-preserved c =
    let l = c.loop-i in
    rw (c.surface_fine-fine.ensures, c.strip_of.ensures, c.double_at-height.ensures)
    (fine_next c.args.glazing c.args.heights.now c.word_count-i-end.result l.i l.base l.fine c.loop-i-test.true ∙ l.invariant)

pub returns : goal.returns
unfolding strips_fine
returns c =
    let l = c.loop-i in
    rw (← c.count_fine.ensures, c.if-not-count_fine.false)
    (sym (fine_end c.args.glazing c.args.heights.now c.word_count-i-end.result l.i l.base l.fine c.loop-i-test.false) ∙ l.invariant)
