-- `find_segment` meets its contract: the table holds the list's sectors, and the walk along it ends at one of them or says why not.
use Rattle.std.proofs.Common.{◌≡◌, ◌<◌, ◌≤◌, [], sym, ap, ◌∙◌, arith}
use Rattle.std.proofs.lemmas.Result.{err_from_is_err_and}
use Rattle.objects.specs.Records.{no_segment, records_from, segment_at, sector_places, sectors_of}
use Rattle.objects.proofs.Places.{none_filled, one_filled}
use Rattle.segments.specs.Segments.{place_of}
use Rattle.segments.specs.FoundSegment.{segment_found}
use Rattle.segments.proofs.Places.{found_in_table}
use Rattle.segments.proofs.find_segment.Goals as goal

pub returns-then-n-eq0 : goal.returns-then-n-eq0
unfolding segment_found sectors_of records_from place_of
returns-then-n-eq0 c =
    let l = c.args.sectors.now in
    let none : sectors_of l ≡ [] = ap (records_from (segment_at l) 0) (sym c.sector_count-n.ensures ∙ c.if-n-eq0.true) in
    rw none

pub loop-i-init : goal.loop-i-init
unfolding sector_places
loop-i-init c = c.no_sectors-places.ensures ∙ none_filled (segment_at c.args.sectors.now) no_segment 36

pub loop-i-preserved : goal.loop-i-preserved
unfolding sector_places
loop-i-preserved c =
    let few : c.sector_count-n.result ≤ 36 = omega (arith, c.requires.few) in
    let fits : c.loop-i.i < 36 = omega arith in
    rw (c.loop-i.invariant, c.segment_at.ensures) (one_filled (segment_at c.args.sectors.now) no_segment 36 c.loop-i.i fits)

pub returns-in_err-place : goal.returns-in_err-place
returns-in_err-place c =
    let l = c.args.sectors.now in
    let few : c.sector_count-n.result ≤ 36 = omega (arith, c.requires.few) in
    let all : c.loop-i.i ≡ c.sector_count-n.result = omega arith in
    let p = err_from_is_err_and c.from_residual.result c.from_residual.ensures.1 in
    rw (p.1, p.2)
    (found_in_table c.args.azimuth l c.sector_count-n.result c.loop-i.places _ no_segment c.sector_count-n.ensures few (c.loop-i.invariant ∙ ap (sector_places l) all)
    (sym c.in_err-place.was ∙ c.get_segment.ensures.place))

pub returns : goal.returns
returns c =
    let l = c.args.sectors.now in
    let few : c.sector_count-n.result ≤ 36 = omega (arith, c.requires.few) in
    let all : c.loop-i.i ≡ c.sector_count-n.result = omega arith in
    found_in_table c.args.azimuth l c.sector_count-n.result c.loop-i.places _ _ c.sector_count-n.ensures few (c.loop-i.invariant ∙ ap (sector_places l) all)
    (sym c.in_ok-place.was ∙ c.get_segment.ensures.place)
