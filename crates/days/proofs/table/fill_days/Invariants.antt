-- `fill_days` meets its contract. The loop's invariant: what is left of the table, stored from here on, comes to all of it.
use mathlib.Core.Path.{◌≡◌}
use Prim.Native.Nat.{◌+◌, ◌-◌, ◌*◌}
use lib.Seq.{sets}
use Rattle.days.specs.Table.{day_records, with_day_table}
use Rattle.days.proofs.table.fill_days.Given as goal

abbrev pub invariant-loop-i : goal.invariant-loop-i
invariant-loop-i l = sets l.days (24 * l.i) (day_records (366 - l.i) (l.i + 1)) ≡ with_day_table l.initial.days
