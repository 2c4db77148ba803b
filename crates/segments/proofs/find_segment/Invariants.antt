-- The sectors so far stand in their places.
use Rattle.std.proofs.Common.{◌≡◌}
use Rattle.objects.specs.Records.{sector_places}
use Rattle.segments.proofs.find_segment.Given as goal

abbrev pub invariant-loop-i : goal.invariant-loop-i
invariant-loop-i l = l.places ≡ sector_places l.sectors l.i
