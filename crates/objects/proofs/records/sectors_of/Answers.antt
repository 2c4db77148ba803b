-- `sectors_of` meets its contract.
use mathlib.Core.Path.{◌∙◌}
use Prim.Native.Nat.{◌<◌}
use native.Mathlib.Omega.{arith}
use Rattle.objects.specs.Records.{segment_at, no_segment, sector_places}
use Rattle.objects.proofs.Places.{none_filled, one_filled}
use Rattle.objects.proofs.records.sectors_of.Goals as goal

pub loop-i-init : goal.loop-i-init
unfolding sector_places
loop-i-init c =
    let p = c.requires in
    (omega (arith, p.readable.few, p.n_bound), c.no_sectors-places.ensures ∙ none_filled (segment_at c.args.bytes.now) no_segment 36)

pub loop-i-preserved : goal.loop-i-preserved
unfolding sector_places
loop-i-preserved c =
    let q = c.loop-i in
    let l = c.args.bytes.now in
    let few : q.i < 36 = omega arith in
    (q.invariant.0, rw (q.invariant.1, c.segment_at.ensures) (one_filled (segment_at l) no_segment 36 q.i few))
