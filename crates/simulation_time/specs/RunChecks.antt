-- When a run is turned down (refusal 2).
use Rattle.std.specs.Prelude.{ℕ, Bool, ◌&&◌, nat_lt, Option, Float}
use Rattle.std.specs.Bool.{then_some}
use Rattle.simulation_time.specs.declared.run.Run.{Run}
use Rattle.simulation_time.specs.Steps.{run_fine, step_count, times, at_all}
use Rattle.simulation_time.specs.Timestep.{current_hour}

-- the hour of a time is below `hours`: 8760, in a leap year 8784
unfoldable pub hour_fine : ℕ → Float → Bool
hour_fine hours time = nat_lt (current_hour time) hours

-- every step's is
unfoldable pub hours_fine : ℕ → Run → Bool
hours_fine hours run = at_all (hour_fine hours) (times run)

-- refusal 2 does not hold
unfoldable pub run_accepted : ℕ → Run → Bool
run_accepted hours run = run_fine run && hours_fine hours run

-- how many steps a run has, accepted or not; none where a field is out of its range
unfoldable pub counted_run : Run → Option ℕ
counted_run run = then_some (run_fine run) (step_count run)

-- how many steps an accepted run has
unfoldable pub checked_run : ℕ → Run → Option ℕ
checked_run hours run = then_some (run_accepted hours run) (step_count run)
