use Rattle.std.proofs.Common.{length}
use Rattle.listing.specs.Reading.{reading_of}
use Rattle.listing.proofs.Lines.{Goes}
use Rattle.listing.proofs.reader.Reader.answer_piece.Given as goal

abbrev pub invariant-loop-end : goal.invariant-loop-end
invariant-loop-end l = Goes l.piece l.initial.list l.used (reading_of l.initial.self) l.list l.count (reading_of l.self) l.rest

abbrev pub decreases-loop-end : goal.decreases-loop-end
decreases-loop-end l = length l.rest
