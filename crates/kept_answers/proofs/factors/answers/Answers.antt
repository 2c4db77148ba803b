-- `answers` meets its contract.
use lib.Ieee.{of_bits}
use Rattle.doubles.specs.Arithmetic.{whole}
use Rattle.kept_answers.specs.Differs.{factor_kept}
use Rattle.kept_answers.proofs.factors.answers.Goals as goal

pub returns-in-Ok : goal.returns-in-Ok
unfolding factor_kept
returns-in-Ok c = rw (c.is_answer.ensures, c.in-Ok.is)

pub returns-in-Err : goal.returns-in-Err
unfolding factor_kept of_bits whole
returns-in-Err c = rw (c.is_answer-in-Err.ensures, c.from.ensures, c.in-Err.is)
