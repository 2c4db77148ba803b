use Rattle.std.proofs.Common.{◌≡◌, refl, sym, ◌∙◌, length, arith}
use lib.Ieee.{of_bits}
use Rattle.doubles.specs.Arithmetic.{whole}
use Rattle.shading.proofs.Loops.{window_overhang_next, right_next, left_next, reveal_next, window_overhang_end, right_end, left_end, reveal_end}
use Rattle.shading.proofs.window.window_shades.Goals as goal

pub loop-object-init : goal.loop-object-init
unfolding of_bits whole
loop-object-init c = record { overhang = refl; right = refl; left = refl; reveal = refl }

pub loop-object-preserved : goal.loop-object-preserved
loop-object-preserved c =
    let l = c.args.objects.now in
    let q = c.loop-object in
    let h = c.loop-object-test.true in
    record {
      overhang = rw c.with_object-shades.ensures (window_overhang_next c.args.sun q.shades l q.object-index _ h ∙ q.invariant.overhang);
      right = rw c.with_object-shades.ensures (right_next c.args.sun q.shades l q.object-index _ h ∙ q.invariant.right);
      left = rw c.with_object-shades.ensures (left_next c.args.sun q.shades l q.object-index _ h ∙ q.invariant.left);
      reveal = rw c.with_object-shades.ensures (reveal_next c.args.sun q.shades l q.object-index _ h ∙ q.invariant.reveal);
    }

pub returns : goal.returns
returns c =
    let l = c.args.objects.now in
    let q = c.loop-object in
    let done : q.object-index ≡ length l = omega arith in (
      sym (window_overhang_end c.args.sun q.shades.overhang l q.object-index done) ∙ q.invariant.overhang,
      sym (right_end c.args.sun q.shades.right l q.object-index done) ∙ q.invariant.right,
      sym (left_end c.args.sun q.shades.left l q.object-index done) ∙ q.invariant.left,
      sym (reveal_end q.shades.reveal l q.object-index done) ∙ q.invariant.reveal,
    )
