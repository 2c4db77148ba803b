-- The steps of `specs/Steps` are those that the Rust's iterator gives, one call of `next` after the other. Assumes nothing.
use Rattle.std.proofs.Common.{◌≡◌, ℕ, zero, suc, ◌+◌, ◌≤◌, Bool, true, false, not, T, List, ◌∷◌, map, sym, refl, ap, ◌∙◌, subst, le_of_eq}
use lib.Dec.{not_T}
use lib.Ieee.{Float, lt, eq, ne}
use lib.Ieee.Bits.{is_false}
use Rattle.doubles.specs.Arithmetic.{◌⊕◌, ◌⊖◌}
use Rattle.doubles.specs.Order.{◌≼◌}
use Rattle.doubles.proofs.Order.{eq→cross, cross→le, le_trans, lt_excludes}
use Rattle.doubles.proofs.Bounds.{sub-le, sub_number}
use Rattle.simulation_time.specs.declared.run.Run.{Run}
use Rattle.simulation_time.specs.Steps.{goes_on, steps_from, step_count, times_from, times}
use Rattle.simulation_time.specs.Iterator.{Timestep, Iterator, Next, some, none, fresh, next, seen_after, seen, timesteps_from, timesteps}
use Rattle.simulation_time.proofs.Accepted.{Accepted, start_finite, end_finite, step_finite, step_nonneg}
use Rattle.simulation_time.proofs.Times.{counted_up_to, enough}

-- after a step with number i at `time`
started : ℕ → Float → Iterator
started i time = record { current_index = i; current_time = time; started = true }

seen_started : (run : Run) (calls i : ℕ) (time : Float)
    → seen_after calls run (next run (started i time)) ≡ timesteps_from (steps_from calls run (time ⊕ run.step) (goes_on run time)) run (i + 1) (time ⊕ run.step)
unfolding seen_after next steps_from timesteps_from goes_on started
seen_started run zero i time = refl
seen_started run (suc calls) i time = go (lt time (run.end ⊖ run.step)) (seen_started run calls (i + 1) (time ⊕ run.step))
  where
    later : Float
    later = time ⊕ run.step

    answer : Bool → Next
    answer b = mathlib.Core.Bool.cond b (some (record { index = i + 1; time = later; step = run.step }) (started (i + 1) later)) none

    go : (b : Bool)
        → seen_after calls run (next run (started (i + 1) later)) ≡ timesteps_from (steps_from calls run (later ⊕ run.step) (goes_on run later)) run (i + 1 + 1) (later ⊕ run.step)
        → seen_after (suc calls) run (answer b) ≡ timesteps_from (steps_from (suc calls) run later b) run (i + 1) later
    go true h = ap (λ (rest : List Timestep). record { index = i + 1; time = later; step = run.step } ∷ rest) h
    go false h = refl

module _ {run : Run} (a : Accepted run) where
  -- a run from its end on does not go on
  no_step : eq run.start run.end ≡ true → lt run.start (run.end ⊖ run.step) ≡ false
  no_step e =
      let back : run.end ≼ run.start = cross→le (end_finite a) (start_finite a) (le_of_eq (sym (eq→cross run.start run.end (start_finite a).holds (end_finite a).holds (subst T (sym e) tt)))) in
      let less : run.end ⊖ run.step ≼ run.start = le_trans (sub-le a.end_fits (step_nonneg a.step_length) (sub_number (end_finite a) (step_finite a.step_length))) back in
      is_false (lt run.start (run.end ⊖ run.step)) (not_T (lt run.start (run.end ⊖ run.step)) (λ (t : T (lt run.start (run.end ⊖ run.step))). lt_excludes (record { holds = t }) less))

  seen_up_to : (calls : ℕ) → seen calls run ≡ timesteps_from (counted_up_to calls run) run 0 run.start
  unfolding seen seen_after next fresh counted_up_to steps_from timesteps_from ne started
  seen_up_to zero = refl
  seen_up_to (suc calls) = go (eq run.start run.end) refl
    where
      go : (b : Bool) → eq run.start run.end ≡ b
          → seen_after (suc calls) run (next run (fresh run)) ≡ timesteps_from (steps_from (suc calls) run run.start (not b)) run 0 run.start
      go true e = rw (e, no_step e)
      go false e = rw e (ap (λ (rest : List Timestep). record { index = 0; time = run.start; step = run.step } ∷ rest) (seen_started run calls 0 run.start))

  -- however often it is called, if only often enough
  pub iterator_steps : (calls : ℕ) → 35137 ≤ calls → seen calls run ≡ timesteps run
  unfolding timesteps
  iterator_steps calls h = seen_up_to calls ∙ ap (λ (n : ℕ). timesteps_from n run 0 run.start) (enough a calls h)

-- their times are the run's
times_of_lem : (run : Run) (n i : ℕ) (time : Float) → map (λ (s : Timestep). s.time) (timesteps_from n run i time) ≡ times_from n run.step time
unfolding timesteps_from times_from
times_of_lem run zero i time = refl
times_of_lem run (suc n) i time = ap (λ (rest : List Float). time ∷ rest) (times_of_lem run n (i + 1) (time ⊕ run.step))

pub timesteps-times : (run : Run) → map (λ (s : Timestep). s.time) (timesteps run) ≡ times run
unfolding timesteps times
timesteps-times run = times_of_lem run (step_count run) 0 run.start
