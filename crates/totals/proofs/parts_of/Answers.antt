-- `parts_of` meets its contract.
use mathlib.Core.Path.{ap}
use native.Mathlib.Omega.{arith}
use Rattle.calendar.specs.declared.Date.{Date}
use Rattle.calendar.proofs.Rule.{calendar_right, year_few}
use Rattle.jobs.specs.Totals.{month_part}
use Rattle.totals.specs.Kept.{parts_of}
use Rattle.totals.proofs.parts_of.Goals as goal

pub overflow_add-result : goal.overflow_add-result
overflow_add-result c =
    let month = ap (λ (d : Date). d.month) c.date_of.ensures in
    omega (arith, c.days_in_year.ensures, month, year_few c.args.leap, (calendar_right c.args.leap c.args.day c.requires).month_to)

pub overflow_sub-result : goal.overflow_sub-result
overflow_sub-result c =
    let month = ap (λ (d : Date). d.month) c.date_of.ensures in
    omega (arith, month, (calendar_right c.args.leap c.args.day c.requires).month_from)

pub returns : goal.returns
unfolding parts_of month_part
returns c = rw (c.days_in_year.ensures, c.date_of.ensures)
