-- `step_count` meets its contract.
use Rattle.std.proofs.Common.{sym, ◌∙◌}
use Rattle.simulation_time.specs.Steps.{steps_of}
use Rattle.simulation_time.specs.RunChecks.{counted_run}
use Rattle.simulation_time.proofs.steps.step_count.Goals as goal

pub returns-then-run_fine : goal.returns-then-run_fine
unfolding counted_run steps_of
returns-then-run_fine c = rw (sym c.run_fine.ensures ∙ c.if-run_fine.true, c.count_steps.ensures)

pub returns-else-run_fine : goal.returns-else-run_fine
unfolding counted_run
returns-else-run_fine c = rw (sym c.run_fine.ensures ∙ c.if-run_fine.false)
