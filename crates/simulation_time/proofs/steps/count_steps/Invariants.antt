-- `count_steps` meets its contract. The loop's invariant: `count` steps are there, and `time` is the last one's. It ends since a year has
-- no more than 35,136 quarters of an hour.
use Rattle.std.proofs.Common.{◌-◌}
use Rattle.simulation_time.proofs.Times.{Walked}
use Rattle.simulation_time.proofs.steps.count_steps.Given as goal

abbrev pub invariant-loop-time : goal.invariant-loop-time
invariant-loop-time l = Walked l.run l.count l.time

abbrev pub decreases-loop-time : goal.decreases-loop-time
decreases-loop-time l = 35138 - l.count
