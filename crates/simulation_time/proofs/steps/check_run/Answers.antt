-- `check_run` meets its contract: the last step's hour decides.
use Rattle.std.proofs.Common.{◌≡◌, ℕ, ◌-◌, true, ◌||◌, eqb, ltb, sym, ◌∙◌}
use Rattle.std.specs.Bool.{then_some}
use denote.Floats.{passes}
use Rattle.simulation_time.specs.declared.run.Run.{Run}
use Rattle.simulation_time.specs.Steps.{run_fine, steps_of, step_count, time_at}
use Rattle.simulation_time.specs.Timestep.{current_hour}
use Rattle.simulation_time.specs.RunChecks.{run_accepted, checked_run}
use Rattle.simulation_time.proofs.Accepted.{Accepted, accepted}
use Rattle.simulation_time.proofs.HoursOfSteps.{hours_by_last}
use Rattle.simulation_time.proofs.steps.check_run.Goals as goal

checked : (run : Run) (hours : ℕ) → Accepted run → run_fine run ≡ true
    → then_some (eqb (step_count run) 0 || ltb (current_hour (time_at run (step_count run - 1))) hours) (step_count run) ≡ checked_run hours run
unfolding checked_run run_accepted
checked run hours a f = rw (f, hours_by_last a hours)

pub returns-then-not-run_fine : goal.returns-then-not-run_fine
unfolding checked_run run_accepted
returns-then-not-run_fine c = rw (sym c.run_fine.ensures ∙ c.if-not-run_fine.true)

pub returns : goal.returns
unfolding steps_of
returns c =
    let run = c.args.run in
    let f : run_fine run ≡ true = sym c.run_fine.ensures ∙ c.if-not-run_fine.false in
    let g = c.well_formed.0 in
    let a : Accepted run = accepted f (record { holds = search passes }) (record { holds = search passes }) in
    c.then_some.ensures ∙ rw (c.current_hour.ensures, c.count_steps-steps.ensures) (checked run c.args.hours a f)
