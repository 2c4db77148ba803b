-- `date_of` meets its contract: month and day are read off the entry.
use mathlib.Core.Path.{◌≡◌, ◌∙◌, ap, subst, sym}
use Prim.Native.Nat.{ℕ, ◌/◌, ◌%◌, ◌<◌}
use native.Mathlib.Omega.{arith}
use Rattle.calendar.specs.Calendar.{date_at, entry_at, place_of, date_of}
use Rattle.calendar.proofs.Rule.{place_short, day_short}
use Rattle.calendar.proofs.date_of.Goals as goal

pub entry_at-entry-requires : goal.entry_at-entry-requires
entry_at-entry-requires c = subst (λ (p : ℕ). p < 366) (sym c.place_of.ensures) (place_short _ _ c.requires)

pub returns : goal.returns
unfolding date_of entry_at
returns c =
    let a = c.args in
    let place = place_of a.leap a.day in
    let entry = c.entry_at-entry.ensures ∙ ap entry_at c.place_of.ensures in
    let short = day_short place (place_short a.leap a.day c.requires) in
    let month : c.entry_at-entry.result / 100 ≡ (date_at place).month = omega (arith, entry, short) in
    let day : c.entry_at-entry.result % 100 ≡ (date_at place).day = omega (arith, entry, short) in
    λ i. record { month = month i; day = day i }
