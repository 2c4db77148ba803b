use mathlib.Core.Path.{◌≡◌, sym, ◌∙◌}
use Prim.Native.Nat.{◌+◌, ◌-◌}
use native.Mathlib.Omega.{arith}
use lib.ListN.{length, take, drop, length-drop}
use lib.Seq.{take_all}
use Rattle.words.proofs.Lists.{unmapped}
use Rattle.listing.specs.Reading.{reading_of}
use Rattle.listing.proofs.Lines.{held_few, starts, within, line_ends, ends_reading, ends_count, ends_list, ends_long}
use Rattle.listing.proofs.reader.Reader.answer_piece.Goals as goal

pub loop-end-init : goal.loop-end-init
loop-end-init c =
    let a = c.args in
    -- the reader's 170 places
    let places : length a.self.now.line ≡ 170 = let g = c.well_formed.0 in search unmapped in
    starts a.piece.now a.list.now a.used (reading_of a.self.now) (held_few a.self.now places)

pub overflow_add-rest : goal.overflow_add-rest
overflow_add-rest c = omega (arith, within c.loop-end.rest.now c.in-Some.end (sym c.in-Some.ensures), c.loop-end.invariant.inside)

pub loop-end-preserved : goal.loop-end-preserved
loop-end-preserved c =
    let r = c.loop-end.rest.now in
    let e = c.in-Some.end in
    let all : take (length r - (e + 1)) (drop (e + 1) r) ≡ drop (e + 1) r = take_all _ (drop (e + 1) r) (omega (arith, length-drop (e + 1) r)) in
    rw all (line_ends c.loop-end.invariant e (sym c.in-Some.ensures) (reading_of c.take_part.new.self) (reading_of c.line_over.new.self) c.as_slice.result.now
    c.append-count.new.list c.append-count.result c.take_part.ensures c.line_over.ensures.0 (c.as_slice.ensures ∙ c.line_over.ensures.1)
    c.append-count.ensures.0 c.append-count.ensures.1)

pub shape_of-list : goal.shape_of-list
shape_of-list c = ends_long c.loop-end.invariant (sym c.in_default.ensures)

pub returns : goal.returns
returns c =
    let ends = sym c.in_default.ensures in
    let g = c.loop-end.invariant in
    (ends_reading g ends (reading_of c.take_part-2.new.self) c.take_part-2.ensures, ends_count g ends, ends_list g ends)
