-- `room_fine` meets its contract.
use native.Mathlib.Omega.{arith}
use Rattle.calendar.proofs.Rule.{year_few}
use Rattle.simulation_time.proofs.Times.{count_few}
use Rattle.jobs.specs.JobChecks.{days_fine, totals_fine, results_fine}
use Rattle.jobs.specs.Totals.{totals_count}
use Rattle.jobs.specs.Run.{room_fine}
use Rattle.runs.proofs.run.room_fine.Goals as goal

pub overflow_add-records : goal.overflow_add-records
overflow_add-records c = omega (arith, c.days_in_year.ensures, year_few c.args.leap)

pub overflow_mul-result : goal.overflow_mul-result
overflow_mul-result c = omega (arith, c.days_in_year.ensures, year_few c.args.leap)

pub overflow_mul-result-2 : goal.overflow_mul-result-2
overflow_mul-result-2 c = let few = count_few c.args.run in omega (arith, few, c.requires)

pub returns : goal.returns
unfolding room_fine days_fine totals_fine totals_count results_fine
returns c = rw (c.word_count.ensures, c.days_in_year.ensures, c.requires)
