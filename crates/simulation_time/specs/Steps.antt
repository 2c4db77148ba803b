-- The steps of a run: the first at its start, and after each another, a step later, as long as its time is below end − step.
-- Times come of repeated addition, each sum rounded. `Iterator` has the same as the Rust writes it.
use Rattle.std.specs.Prelude.{ℕ, zero, suc, ◌-◌, Bool, true, false, ◌&&◌, List, [], ◌∷◌, Float}
use Rattle.std.specs.Float.Ieee.{lt, le, ne}
use Rattle.doubles.specs.Arithmetic.{◌⊕◌, ◌⊖◌, whole, decimal}
use Rattle.simulation_time.specs.declared.run.Run.{Run}
use Rattle.simulation_time.specs.declared.steps.Steps.{Steps}

-- start 0..8784, end above 0 and up to 8784, step 0.25..24 (hours): −0.0 counts as 0, and NaN is in no range
unfoldable pub run_fine : Run → Bool
unfolding whole decimal
run_fine run =
    (le (whole 0) run.start && le run.start (whole 8784))
    && (lt (whole 0) run.end && le run.end (whole 8784))
    && (le (decimal 25 2) run.step && le run.step (whole 24))

-- another step follows the one at `time`
unfoldable pub goes_on : Run → Float → Bool
goes_on run time = lt time (run.end ⊖ run.step)

-- How many steps there are from the one at `time` on, where `there` says whether that one is. At most `most` are counted, so that the
-- recursion has an end: no accepted run has more than 35,137, and a larger `most` changes nothing (`enough` in proofs/Times).
unfoldable pub steps_from : ℕ → Run → Float → Bool → ℕ
unfolding goes_on
steps_from zero run time there = 0
steps_from (suc most) run time false = 0
steps_from (suc most) run time true = suc (steps_from most run (time ⊕ run.step) (goes_on run time))

-- start = end gives none, start above end gives one
unfoldable pub step_count : Run → ℕ
unfolding steps_from
step_count run = steps_from 35137 run run.start (ne run.start run.end)

-- the time of a step, which counts from 0
unfoldable pub time_at : Run → ℕ → Float
time_at run zero = run.start
time_at run (suc i) = time_at run i ⊕ run.step

-- n times, from one on
unfoldable pub times_from : ℕ → Float → Float → List Float
times_from zero step time = []
times_from (suc n) step time = time ∷ times_from n step (time ⊕ step)

-- all times of a run, in order
unfoldable pub times : Run → List Float
times run = times_from (step_count run) run.step run.start

-- a test passes at every time of a list
unfoldable pub at_all : (Float → Bool) → List Float → Bool
at_all test [] = true
at_all test (time ∷ rest) = test time && at_all test rest

-- the count and the last step's time
unfoldable pub steps_of : Run → Steps
steps_of run = record { count = step_count run; last = time_at run (step_count run - 1) }
