-- `count_steps` meets its contract. The loop's invariant: `count` steps are there, and `time` is the last one's. It ends since a year has
-- no more than 35,136 quarters of an hour.
use Rattle.std.proofs.Common.{◌≡◌, ℕ, ◌+◌, ◌-◌, ◌≤◌, true, false, not, ap, ◌∙◌, arith}
use denote.Floats.{passes}
use lib.Ieee.{Float, eq, ne}
use Rattle.simulation_time.specs.declared.run.Run.{Run}
use Rattle.simulation_time.specs.Steps.{steps_of, step_count, steps_from, time_at, goes_on}
use Rattle.simulation_time.proofs.Accepted.{Accepted, accepted}
use Rattle.simulation_time.proofs.Times.{Walked, walked_first, walked_next, walked_few, walked_end}
use Rattle.simulation_time.proofs.steps.count_steps.Goals as goal
use Rattle.simulation_time.proofs.steps.count_steps.Goals.{In-loop-time, Start}

fine : (c : Start) → Accepted c.args.run
fine c = let g = c.well_formed.0 in accepted c.requires (record { holds = search passes }) (record { holds = search passes })

none : (run : Run) → eq run.start run.end ≡ true → record { count = 0; last = run.start } ≡ steps_of run
unfolding steps_of step_count steps_from time_at ne
none run e = rw e

walked : (run : Run) (count : ℕ) (time : Float) → Accepted run → Walked run count time → goes_on run time ≡ false → record { count = count; last = time } ≡ steps_of run
unfolding steps_of
walked run count time a w e =
    let n : count ≡ step_count run = walked_end w a e in
    λ i. record { count = n i; last = (w.last ∙ ap (λ (k : ℕ). time_at run (k - 1)) n) i }

pub returns-then-run : goal.returns-then-run
returns-then-run c = none c.args.run c.if-run.true

pub loop-time-init : goal.loop-time-init
unfolding ne
loop-time-init c = walked_first c.args.run (ap not c.if-run.false)

-- in a turn another step is there
few : (c : In-loop-time) → c.loop-time.count + 1 ≤ 35137
unfolding goes_on
few c = walked_few (walked_next c.loop-time.invariant c.loop-time-test.true) (fine c.before.before.before.before.before)

pub overflow_add-count : goal.overflow_add-count
overflow_add-count c = omega (arith, few c.before)

pub loop-time-smaller : goal.loop-time-smaller
loop-time-smaller c = omega (arith, few c.before)

pub loop-time-preserved : goal.loop-time-preserved
unfolding goes_on
loop-time-preserved c = walked_next c.loop-time.invariant c.loop-time-test.true

pub returns : goal.returns
unfolding goes_on
returns c =
    walked c.args.run c.loop-time.count c.loop-time.time (fine c.before.before.before.before.before) c.loop-time.invariant c.loop-time-test.false
