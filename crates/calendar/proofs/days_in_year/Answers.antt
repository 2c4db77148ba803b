-- `days_in_year` meets its contract.
use Rattle.calendar.specs.Calendar.{days_in_year}
use Rattle.calendar.proofs.days_in_year.Goals as goal

pub returns-then-leap : goal.returns-then-leap
unfolding days_in_year
returns-then-leap c = rw c.if-leap.true

pub returns-else-leap : goal.returns-else-leap
unfolding days_in_year
returns-else-leap c = rw c.if-leap.false
