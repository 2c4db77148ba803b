use Rattle.segments.specs.Segments.{between_ends}
use Rattle.segments.proofs.between_ends.Goals as goal

pub returns : goal.returns
unfolding between_ends
returns c = rw (c.transform_to_180-2.ensures, c.transform_to_180.ensures)
