-- The hours of a run's steps, and what the check of a run says. Assumes nothing.
use Rattle.std.proofs.Common.{◌≡◌, ℕ, zero, suc, ◌+◌, ◌-◌, ◌<◌, ◌≤◌, Bool, true, false, ◌&&◌, ◌||◌, T, eqb, ltb, Some, None, sym, refl, ap, ◌∙◌, subst, arith, le-ltb, lt-ltb}
use mathlib.Core.Bool.{and-true, and-false}
use native.Mathlib.Decide.{dec_lt}
use lib.Dec.{eqb-suc-zero}
use lib.Ieee.{Float, to_unsigned}
use lib.Ieee.Bits.{is_true}
use lib.Ieee.Fits.{and_l}
use Rattle.doubles.specs.Order.{◌≼◌, Fits}
use Rattle.std.specs.Bool.{then_some}
use Rattle.simulation_time.specs.declared.run.Run.{Run}
use Rattle.simulation_time.specs.Steps.{run_fine, step_count, time_at, times_from, times, at_all}
use Rattle.simulation_time.specs.Timestep.{current_hour}
use Rattle.simulation_time.specs.RunChecks.{hour_fine, hours_fine, run_accepted, checked_run}
use Rattle.doubles.proofs.Casts.{cast_mono, cast_floor}
use Rattle.simulation_time.proofs.Accepted.{Accepted}
use Rattle.simulation_time.proofs.Times.{reached, never_falls}

-- the floor makes no difference, since what is negative becomes 0
pub hour_is : {time : Float} → Fits time → current_hour time ≡ to_unsigned 32 time
unfolding current_hour
hour_is f = cast_floor 32 f

-- a later time has no earlier hour
pub hour_mono : {x y : Float} → Fits x → Fits y → x ≼ y → current_hour x ≤ current_hour y
hour_mono f g h = rw (hour_is f, hour_is g) (cast_mono 32 h)

-- of two hours only the later counts
later_counts : (m n hours : ℕ) → m ≤ n → ltb m hours && ltb n hours ≡ ltb n hours
later_counts m n hours h =
    elim (dec_lt n hours) [
      | yes l ↦ let k : m < hours = omega arith in rw (lt-ltb m hours k, lt-ltb n hours l)
      | no l ↦ let k : hours ≤ n = omega arith in rw (le-ltb n hours k) (and-false (ltb m hours))
    ]

module _ {run : Run} (a : Accepted run) (hours : ℕ) where
  -- from step i on, n more after it: the last one's hour decides
  by_last : (n i : ℕ) → i + n < step_count run → at_all (hour_fine hours) (times_from (suc n) run.step (time_at run i)) ≡ ltb (current_hour (time_at run (i + n))) hours
  unfolding at_all hour_fine times_from time_at
  by_last zero i h =
      let e : i + 0 ≡ i = omega arith in
      rw e (and-true (ltb (current_hour (time_at run i)) hours))
  by_last (suc n) i h =
      let e : suc i + n ≡ i + suc n = omega arith in
      let later : time_at run i ≼ time_at run (i + suc n) = never_falls a i (i + suc n) (omega arith) h in
      let l : current_hour (time_at run i) ≤ current_hour (time_at run (i + suc n)) = hour_mono (reached a i (omega arith)).fits (reached a (i + suc n) h).fits later in
      ap (λ (b : Bool). ltb (current_hour (time_at run i)) hours && b) (by_last n (suc i) (omega arith) ∙ ap (λ (k : ℕ). ltb (current_hour (time_at run k)) hours) e)
      ∙ later_counts (current_hour (time_at run i)) (current_hour (time_at run (i + suc n))) hours l

  -- only the last step's hour needs a look
  pub hours_by_last : hours_fine hours run ≡ eqb (step_count run) 0 || ltb (current_hour (time_at run (step_count run - 1))) hours
  unfolding hours_fine times
  hours_by_last = go (step_count run) refl
    where
      go : (n : ℕ) → step_count run ≡ n → at_all (hour_fine hours) (times_from n run.step run.start) ≡ eqb n 0 || ltb (current_hour (time_at run (n - 1))) hours
      go zero e = unfold at_all times_from in refl
      go (suc n) e =
          let k : suc n - 1 ≡ n = omega arith in
          let z : 0 + n ≡ n = omega arith in
          let last : at_all (hour_fine hours) (times_from (suc n) run.step run.start) ≡ ltb (current_hour (time_at run (0 + n))) hours = unfold time_at in by_last n 0 (omega arith) in
          rw (eqb-suc-zero n, k) (last ∙ ap (λ (i : ℕ). ltb (current_hour (time_at run i)) hours) z)

-- ---- refusal 2 does not hold

pub fields_fine : (hours : ℕ) (run : Run) → run_accepted hours run ≡ true → run_fine run ≡ true
unfolding run_accepted
fields_fine hours run h = is_true (run_fine run) (and_l (run_fine run) (hours_fine hours run) (subst T (sym h) tt))

-- ---- what the check hands out

-- the steps that are counted where a test passes
passed_only : (fine : Bool) (n count : ℕ) → then_some fine n ≡ Some count → (fine ≡ true) × (count ≡ n)
passed_only true n count e = (refl, cc)
passed_only false n count e = cc

failed_only : (fine : Bool) (n : ℕ) → then_some fine n ≡ None → fine ≡ false
failed_only true n e = cc
failed_only false n e = refl

module _ (hours : ℕ) (run : Run) where
  -- the count of an accepted run
  pub run_passed : (count : ℕ) → checked_run hours run ≡ Some count → (run_accepted hours run ≡ true) × (count ≡ step_count run)
  unfolding checked_run
  run_passed count e = passed_only (run_accepted hours run) (step_count run) count e

  -- refusal 2 holds
  pub run_failed : checked_run hours run ≡ None → run_accepted hours run ≡ false
  unfolding checked_run
  run_failed e = failed_only (run_accepted hours run) (step_count run) e
