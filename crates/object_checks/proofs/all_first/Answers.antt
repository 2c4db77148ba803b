use Rattle.std.proofs.Common.{refl, ◌∙◌, ap₂, ◌&&◌}
use Rattle.words.specs.Lists.{first_fine}
use Rattle.words.proofs.Lists.{one_more}
use Rattle.object_checks.proofs.all_first.Goals as goal

pub loop-i-init : goal.loop-i-init
unfolding first_fine
loop-i-init g c fine told = refl

pub loop-i-preserved : goal.loop-i-preserved
loop-i-preserved g c fine told =
    let q = c.loop-i in
    ap₂ ◌&&◌ (told q.i c.loop-i-test.true _ c.test-all.ensures) (q.invariant fine told) ∙ one_more fine q.i
