use Rattle.std.proofs.Common.{◌≡◌, sym, ◌∙◌, length, arith}
use Rattle.shading.specs.Factor.{near_factor}
use Rattle.shading.proofs.Loops.{near_next, near_end}
use Rattle.shading.proofs.factor.least_factor.Goals as goal

pub loop-object-preserved : goal.loop-object-preserved
loop-object-preserved c =
    let a = c.args in
    let q = c.loop-object in
    rw c.with_object-factor.ensures (near_next (near_factor a.surface a.sun a.hk_ovh a.wk_sun) q.factor a.objects.now q.object-index _ c.loop-object-test.true ∙ q.invariant)

pub returns : goal.returns
returns c =
    let a = c.args in
    let q = c.loop-object in
    let done : q.object-index ≡ length a.objects.now = omega arith in
    sym (near_end (near_factor a.surface a.sun a.hk_ovh a.wk_sun) q.factor a.objects.now q.object-index done) ∙ q.invariant
