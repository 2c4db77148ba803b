-- `entry_at` meets its contract: all 366 entries are those of the months' lengths, by computing them.
use mathlib.Core.Path.{◌≡◌, ◌∙◌, ap}
use Prim.Native.Nat.{ℕ, ◌+◌, ◌<◌}
use native.Mathlib.Omega.{arith}
use lib.ListN.{get_or}
use Rattle.calendar.specs.Calendar.{entry_at}
use Rattle.calendar.proofs.Entries.{values_from, value_at_lem}
use Rattle.calendar.proofs.table.entry_at.Goals as goal

dates : (place : ℕ) → place < 366 → get_or (values_from entry_at 0 366) place 0 ≡ entry_at place
dates place h = let e : 0 + place ≡ place = omega arith in value_at_lem entry_at 0 366 place h ∙ ap entry_at e

pub returns : goal.returns
unfolding entry_at
returns c = dates c.args.place c.requires
