-- The loop's invariant: the objects so far stand in their places.
use mathlib.Core.Path.{◌≡◌}
use Prim.Native.Nat.{◌≤◌}
use Rattle.objects.specs.Records.{window_object_at, no_window_object, filled}
use Rattle.objects.proofs.records.window_of.Given as goal

abbrev pub invariant-loop-i : goal.invariant-loop-i
invariant-loop-i l = (l.n ≤ 16) × (l.window.count ≡ l.n) × (l.window.objects ≡ filled (window_object_at l.bytes) no_window_object 16 l.i)
