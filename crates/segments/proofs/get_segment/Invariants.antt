-- What the loop carries: the walk from the next sector on comes to the place that the whole walk comes to.
use Rattle.segments.proofs.Walks.{Comes}
use Rattle.segments.proofs.get_segment.Given as goal

abbrev pub invariant-loop-i : goal.invariant-loop-i
invariant-loop-i l = Comes l.azimuth l.sectors l.i l.last
