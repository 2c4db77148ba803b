-- `fill_days` meets its contract. The loop's invariant: what is left of the table, stored from here on, comes to all of it.
use mathlib.Core.Path.{sym, ap, ◌∙◌, subst}
use mathlib.Core.List.{List}
use Prim.Native.Nat.{ℕ, ◌+◌, ◌-◌, ◌*◌, ◌≤◌}
use lib.ListN.{length}
use native.Mathlib.Omega.{arith}
use lib.Seq.{sets}
use Rattle.days.specs.Table.{day_records, put_day}
use Rattle.days.proofs.TableLaws.{record_next, records_done, table_whole}
use Rattle.days.proofs.table.fill_days.Goals as goal

pub loop-i-init : goal.loop-i-init
loop-i-init c = table_whole _ c.requires

pub loop-i-preserved : goal.loop-i-preserved
loop-i-preserved c =
    let d = c.loop-i.days in
    let i = c.loop-i.i in
    let room : 8784 ≤ length d = subst (λ (n : ℕ). 8784 ≤ n) (sym c.loop-i.auto.days) c.requires in
    ap (λ (m : List ℕ). sets m (24 * (i + 1)) (day_records (366 - (i + 1)) (i + 1 + 1))) (c.store_day.ensures ∙ ap (put_day d i) c.day_of.ensures)
    ∙ record_next d i (omega arith) room
    ∙ c.loop-i.invariant

pub returns : goal.returns
returns c = sym (records_done c.loop-i.days c.loop-i.i (omega arith)) ∙ c.loop-i.invariant
