-- A listing begins where more is wanted.
use Rattle.std.proofs.Common.{ap}
use Rattle.listing.specs.Reading.{Reading, wants_more, line_start}
use Rattle.shade_listing.proofs.answer_input.Goals as goal

pub read_all-outcome-requires : goal.read_all-outcome-requires
unfolding wants_more line_start
read_all-outcome-requires g c = ap (λ (r : Reading). wants_more r.stage) c.line_start-reader.ensures
