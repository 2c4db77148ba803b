-- `get_segment` meets its contract: at each sector the tests say where the walk ends, or that it goes on (`Walks`).
use Rattle.std.proofs.Common.{[], arith, ◌≡◌, length}
use lib.Ieee.{nan}
use Rattle.objects.specs.declared.sectors.ShadingSegment.{ShadingSegment}
use Rattle.segments.specs.Segments.{holds_azimuth}
use Rattle.segments.proofs.Walks.{comes_first, comes_next, comes_last}
use Rattle.segments.proofs.get_segment.Goals as goal

-- what a place outside the list stands for
abbrev blank : ShadingSegment
blank = record { start360 = nan; end360 = nan; count = 0; shading_objects = [] }

pub loop-i-init : goal.loop-i-init
loop-i-init c = comes_first c.args.azimuth c.args.sectors.now _

pub returns-then-i-last : goal.returns-then-i-last
returns-then-i-last c =
    let here = comes_next c.args.azimuth c.args.sectors.now c.loop-i.i c.loop-i.last blank c.loop-i-test.true c.loop-i.invariant in
    record { place = rw c.if-i-last.true at here; within = tt }

pub returns-then-sector : goal.returns-then-sector
returns-then-sector c =
    let here = comes_next c.args.azimuth c.args.sectors.now c.loop-i.i c.loop-i.last blank c.loop-i-test.true c.loop-i.invariant in
    record { place = rw (c.if-i-last.false, c.if-sector.true) at here; within = tt }

pub returns-then-between_ends : goal.returns-then-between_ends
unfolding holds_azimuth
returns-then-between_ends c =
    let here = comes_next c.args.azimuth c.args.sectors.now c.loop-i.i c.loop-i.last blank c.loop-i-test.true c.loop-i.invariant in
    record { place = rw (c.if-i-last.false, c.if-sector.false, ← c.between_ends.ensures, c.if-between_ends.true) at here; within = c.loop-i-test.true }

pub loop-i-preserved : goal.loop-i-preserved
unfolding holds_azimuth
loop-i-preserved c =
    let here = comes_next c.args.azimuth c.args.sectors.now c.loop-i.i c.loop-i.last blank c.loop-i-test.true c.loop-i.invariant in
    rw (c.if-i-last.false, c.if-sector.false, ← c.between_ends.ensures, c.if-between_ends.false) at here

pub returns : goal.returns
returns c =
    let ended : c.loop-i.i ≡ length c.args.sectors.now = omega arith in
    record { place = comes_last c.args.azimuth c.args.sectors.now c.loop-i.i c.loop-i.last ended c.loop-i.invariant; within = tt }
