-- `place_of` meets its contract.
use mathlib.Core.Path.{refl}
use mathlib.Core.Logic.{inl, inr}
use native.Mathlib.Omega.{arith}
use borrow.Author.Tests.{lt-ltb, le-ltb}
use Rattle.calendar.specs.Calendar.{place_of}
use Rattle.calendar.proofs.Rule.{year_short}
use Rattle.calendar.proofs.place_of.Goals as goal

pub returns-then-day-lt59 : goal.returns-then-day-lt59
unfolding place_of
returns-then-day-lt59 c = elim c.if-day-lt59.either [ inl e ↦ rw e refl | inr e ↦ rw (e.0, lt-ltb _ _ e.1) refl ]

pub overflow_add-result : goal.overflow_add-result
overflow_add-result c = omega (arith, year_short c.args.leap _ c.requires)

pub returns-else-day-lt59 : goal.returns-else-day-lt59
unfolding place_of
returns-else-day-lt59 c = let h = c.if-day-lt59.false in rw (h.0, le-ltb _ _ h.1) refl
