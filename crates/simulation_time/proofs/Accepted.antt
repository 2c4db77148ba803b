-- What a run has whose fields are in their ranges. Assumes nothing.
use Rattle.std.proofs.Common.{◌≡◌, true, ◌&&◌, T, sym, subst}
use lib.Ieee.{Float, lt, le}
use lib.Ieee.Fits.{and_l, and_r}
use Rattle.doubles.specs.Arithmetic.{whole, decimal}
use Rattle.doubles.specs.Order.{◌≼◌, ◌≺◌, InRange, Finite, Fits}
use Rattle.doubles.proofs.Order.{le_trans, lt→le}
use Rattle.doubles.proofs.Bounds.{finite_zero}
use Rattle.simulation_time.specs.declared.run.Run.{Run}
use Rattle.simulation_time.specs.Steps.{run_fine}
use Rattle.doubles.proofs.Differences.{between_finite}

-- a step's range, in hours
abbrev pub StepLength : Float → Type 0
StepLength step = InRange (decimal 25 2) (whole 24) step

-- the ranges as facts; start and end are doubles
pub record Accepted (run : Run) : Type 0 where
  pub start_low : whole 0 ≼ run.start
  pub start_high : run.start ≼ whole 8784
  pub end_above : whole 0 ≺ run.end
  pub end_high : run.end ≼ whole 8784
  pub step_length : StepLength run.step
  pub start_fits : Fits run.start
  pub end_fits : Fits run.end

-- the step's alone, whatever start and end are
pub step_length : (run : Run) → T (run_fine run) → StepLength run.step
unfolding run_fine
step_length run fine =
    let low = le (decimal 25 2) run.step in
    let high = le run.step (whole 24) in
    let both = and_r (le (whole 0) run.start && le run.start (whole 8784) && (lt (whole 0) run.end && le run.end (whole 8784))) (low && high) fine in
    record { from = record { holds = and_l low high both }; to = record { holds = and_r low high both } }

pub accepted : {run : Run} → run_fine run ≡ true → Fits run.start → Fits run.end → Accepted run
unfolding run_fine
accepted {run} fine f g =
    let a = le (whole 0) run.start in
    let b = le run.start (whole 8784) in
    let c = lt (whole 0) run.end in
    let d = le run.end (whole 8784) in
    let e = le (decimal 25 2) run.step in
    let h = le run.step (whole 24) in
    let t : T (a && b && (c && d) && (e && h)) = subst T (sym fine) tt in
    let u = and_l (a && b && (c && d)) (e && h) t in
    let p = and_l (a && b) (c && d) u in
    let q = and_r (a && b) (c && d) u in
    record {
      start_low = record { holds = and_l a b p };
      start_high = record { holds = and_r a b p };
      end_above = record { holds = and_l c d q };
      end_high = record { holds = and_r c d q };
      step_length = step_length run t;
      start_fits = f;
      end_fits = g;
    }

year_finite : Finite (whole 8784)
unfolding whole
year_finite = record { holds = tt }

-- a time of the year
pub time_finite : {time : Float} → whole 0 ≼ time → time ≼ whole 8784 → Finite time
time_finite h k = between_finite finite_zero year_finite h k

module _ {step : Float} (r : StepLength step) where
  pub step_nonneg : whole 0 ≼ step
  unfolding whole decimal
  step_nonneg = le_trans {y = decimal 25 2} (record { holds = unfold le in tt }) r.from

  pub step_finite : Finite step
  unfolding whole
  step_finite = between_finite finite_zero (record { holds = tt }) step_nonneg r.to

module _ {run : Run} (a : Accepted run) where
  pub start_finite : Finite run.start
  start_finite = time_finite a.start_low a.start_high

  pub end_finite : Finite run.end
  end_finite = time_finite (lt→le a.end_above) a.end_high
