-- The loop's invariant: the sectors so far stand in their places.
use mathlib.Core.Path.{◌≡◌}
use Prim.Native.Nat.{◌≤◌}
use Rattle.objects.specs.Records.{sector_places}
use Rattle.objects.proofs.records.sectors_of.Given as goal

abbrev pub invariant-loop-i : goal.invariant-loop-i
invariant-loop-i l = (l.n ≤ 36) × (l.places ≡ sector_places l.bytes l.i)
