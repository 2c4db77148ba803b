-- The Rust's `SimulationTimeIterator`, as it stands there: what it keeps, and what a call of `next` gives and leaves behind.
use Rattle.std.specs.Prelude.{ℕ, zero, suc, ◌+◌, Bool, true, false, cond, not, ◌&&◌, List, [], ◌∷◌, Float}
use Rattle.std.specs.Float.Ieee.{lt, ne}
use Rattle.doubles.specs.Arithmetic.{◌⊕◌, ◌⊖◌}
use Rattle.simulation_time.specs.declared.run.Run.{Run}
use Rattle.simulation_time.specs.Steps.{step_count}

pub record Timestep : Type 0 where
  pub index : ℕ
  pub time : Float
  pub step : Float

pub record Iterator : Type 0 where
  pub current_index : ℕ
  pub current_time : Float
  pub started : Bool

-- a call's answer: a step and the iterator after it, or the end
pub data Next : Type 0 where
  some : Timestep → Iterator → Next
  none : Next

-- before the first call
unfoldable pub fresh : Run → Iterator
fresh run = record { current_index = 0; current_time = run.start; started = false }

unfoldable pub next : Run → Iterator → Next
next run it =
    cond (not it.started && ne run.start run.end)
    (some
    (record { index = 0; time = run.start; step = run.step })
    (record { current_index = it.current_index; current_time = it.current_time; started = true }))
    (cond (lt it.current_time (run.end ⊖ run.step))
    (some
    (record { index = it.current_index + 1; time = it.current_time ⊕ run.step; step = run.step })
    (record { current_index = it.current_index + 1; current_time = it.current_time ⊕ run.step; started = it.started }))
    none)

-- the steps of `calls` calls, the first call's answer being given
unfoldable pub seen_after : ℕ → Run → Next → List Timestep
unfolding next
seen_after zero run answer = []
seen_after (suc calls) run none = []
seen_after (suc calls) run (some step it) = step ∷ seen_after calls run (next run it)

-- what a run's iterator gives in `calls` calls
unfoldable pub seen : ℕ → Run → List Timestep
seen calls run = seen_after calls run (next run (fresh run))

-- n steps, from the one at `time` with number i on
unfoldable pub timesteps_from : ℕ → Run → ℕ → Float → List Timestep
timesteps_from zero run i time = []
timesteps_from (suc n) run i time = record { index = i; time = time; step = run.step } ∷ timesteps_from n run (i + 1) (time ⊕ run.step)

-- all steps of a run: those of `Steps`, with their numbers
unfoldable pub timesteps : Run → List Timestep
timesteps run = timesteps_from (step_count run) run 0 run.start
