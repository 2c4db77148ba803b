-- It reads only where more is wanted.
use Rattle.std.proofs.Common.{◌≡◌, true}
use Rattle.listing.specs.Reading.{wants_more}
use Rattle.shade_listing.proofs.read_all.Given as goal

abbrev pub invariant-loop : goal.invariant-loop
invariant-loop g l = wants_more l.reader.stage ≡ true
