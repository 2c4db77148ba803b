-- `answers` meets its contract.
use lib.Ieee.{of_bits}
use Rattle.doubles.specs.Arithmetic.{whole}
use Rattle.jobs.specs.Run.{number_for, step_for, count_for, sum_for}
use Rattle.kept_answers.specs.Differs.{answer_kept}
use Rattle.kept_answers.proofs.whole_runs.answers.Goals as goal

pub returns-in-Ok : goal.returns-in-Ok
unfolding answer_kept number_for step_for count_for sum_for
returns-in-Ok c = rw (c.is_answer.ensures, c.in-Ok.is)

pub returns-in-Err : goal.returns-in-Err
unfolding answer_kept number_for step_for count_for sum_for of_bits whole
returns-in-Err c = rw (c.is_answer-in-Err.ensures, c.from.ensures, c.in-Err.is)
