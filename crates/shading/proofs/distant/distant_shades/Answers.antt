use Rattle.std.proofs.Common.{◌≡◌, refl, sym, ◌∙◌, length, arith}
use lib.Ieee.{of_bits}
use Rattle.doubles.specs.Arithmetic.{whole}
use Rattle.shading.proofs.Loops.{obstacle_next, overhang_next, obstacle_end, overhang_end}
use Rattle.shading.proofs.distant.distant_shades.Goals as goal

pub loop-object-init : goal.loop-object-init
unfolding of_bits whole
loop-object-init c = record { obstacle = refl; overhang = refl }

pub loop-object-preserved : goal.loop-object-preserved
loop-object-preserved c =
    let a = c.args in
    let q = c.loop-object in
    record {
      obstacle = rw c.with_object-shades.ensures (obstacle_next a.surface a.sun q.shades a.objects.now q.object-index _ c.loop-object-test.true ∙ q.invariant.obstacle);
      overhang = rw c.with_object-shades.ensures (overhang_next a.surface a.sun q.shades a.objects.now q.object-index _ c.loop-object-test.true ∙ q.invariant.overhang);
    }

pub returns : goal.returns
returns c =
    let a = c.args in
    let q = c.loop-object in
    let done : q.object-index ≡ length a.objects.now = omega arith in (
      sym (obstacle_end a.surface a.sun q.shades.obstacle a.objects.now q.object-index done) ∙ q.invariant.obstacle,
      sym (overhang_end a.surface a.sun q.shades.overhang a.objects.now q.object-index done) ∙ q.invariant.overhang,
    )
