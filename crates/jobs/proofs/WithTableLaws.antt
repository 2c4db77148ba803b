-- Days worked out once: the claim, proved. Assumes nothing.
use Rattle.std.specs.Prelude.{Err, Ok, Result, ℕ}
use mathlib.Core.Path.{◌≡◌, refl, sym, ap, ap₂, ◌∙◌, subst}
use mathlib.Core.Bool.{Bool, ◌&&◌}
use mathlib.Core.List.{List}
use Prim.Native.Nat.{ℕ, zero, suc, ◌+◌, ◌/◌, ◌≤◌, ◌<◌}
use native.Mathlib.Numerals.{add-one}
use native.Mathlib.Omega.{arith}
use lib.Dec.{T}
use lib.ListN.{length, get_or}
use lib.Ieee.{Float}
use lib.Ieee.Bits.{is_true}
use Rattle.doubles.specs.Arithmetic.{◌⊕◌, whole}
use Rattle.days.specs.Day.{day_of}
use Rattle.days.specs.Table.{day_at, with_day_table}
use Rattle.days.proofs.TableLaws.{table_read, length_with_table, byte_behind}
use Rattle.sun.specs.Site.{leap_year_of}
use Rattle.sun.proofs.HourParts.{hour_by_parts}
use Rattle.simulation_time.specs.Steps.{step_count, time_at}
use Rattle.simulation_time.specs.Timestep.{current_hour}
use Rattle.objects.specs.declared.answers.Refusal.{Refusal}
use Rattle.jobs.specs.declared.answers.Row.{Row}
use Rattle.jobs.specs.Job.{Job}
use Rattle.jobs.specs.JobChecks.{days_fine, totals_fine, results_fine, checked}
use Rattle.jobs.specs.Step.{sun_at, irradiance_at, step_with, step_at}
use Rattle.jobs.specs.Rows.{put_row, with_row}
use Rattle.jobs.specs.Totals.{day_of_step}
use Rattle.jobs.specs.Run.{Ran, on_row, run_from, run_checked, Lent, room_fine, room_for, days_left, run_of, plain_run}
use Rattle.jobs.specs.WithTable.{sun_by_day, step_by_table, run_by_table, DaysWorkedOutOnce}
use Rattle.jobs.proofs.PassedChecks.{Passed, passed, days_fit, hour_below, day_in_year}

-- a step whose hour reads its day from a list that holds it
step_by_table_lem : (days : List ℕ) (job : Job) (time : Float) → day_at days (current_hour time / 24) ≡ day_of (current_hour time / 24 + 1)
    → step_by_table days job time ≡ step_at job time
unfolding step_by_table sun_by_day step_at step_with sun_at irradiance_at
step_by_table_lem days job time e = rw (e, hour_by_parts)

-- n such steps: at each the same row, and the same goes on
runs_alike : (days : List ℕ) (job : Job) (n i : ℕ) (sum : Float) (results : List ℕ)
    → ((k : ℕ) → k < i + n → step_by_table days job (time_at job.run k) ≡ step_at job (time_at job.run k))
    → run_by_table n days job i (time_at job.run i) sum results ≡ run_from n job i (time_at job.run i) sum results
unfolding run_by_table run_from time_at
runs_alike days job zero i sum results h = refl
runs_alike days job (suc n) i sum results h =
    let time : Float = time_at job.run i in
    let next : Row → Ran = λ (row : Row). run_by_table n days job (i + 1) (time ⊕ job.run.step) (with_row job.run.step sum row) (put_row results i row) in
    let on : (row : Row) → run_by_table n days job (i + 1) (time ⊕ job.run.step) (with_row job.run.step sum row) (put_row results i row)
    ≡ run_from n job (i + 1) (time ⊕ job.run.step) (with_row job.run.step sum row) (put_row results i row) =
    λ (row : Row). rw (add-one i) (runs_alike days job n (suc i) (with_row job.run.step sum row) (put_row results i row) (λ k l. h k (omega (arith, l)))) in
    ap (λ (a : Result Row Refusal). on_row a i results next) (h i (omega arith)) ∙ ap (on_row (step_at job time) i results) (λ x (row : Row). on row x)

module _ (job : Job) (lists : Lent) where
  pub same_without : T (days_fine lists.days) → T (totals_fine (leap_year_of job.site) lists.totals) → (run_of job lists).ran ≡ plain_run job lists.results
  unfolding run_of plain_run room_fine
  same_without d t =
      let room : Bool → Bool → Bool = λ (days totals : Bool). days && (totals && results_fine job.run lists.results) in
      ap₂ (λ (days totals : Bool). run_checked (checked job (room days totals)) job lists.results)
      (is_true (days_fine lists.days) d) (is_true (totals_fine (leap_year_of job.site) lists.totals) t)

  -- the list that a run leaves whose checks have passed
  pub days_filled : (n : ℕ) → checked job (room_for job lists) ≡ Ok n → (run_of job lists).days ≡ with_day_table lists.days
  unfolding run_of days_left
  days_filled n e = ap (λ (checks : Result ℕ Refusal). days_left checks lists.days) e

  -- the record of a step's day
  days_read : (n : ℕ) → checked job (room_for job lists) ≡ Ok n → Passed job (room_for job lists) → (i : ℕ) → i < step_count job.run
      → day_at (run_of job lists).days (day_of_step job.run i) ≡ day_of (day_of_step job.run i + 1)
  days_read n e p i h =
      ap (λ (days : List ℕ). day_at days (day_of_step job.run i)) (days_filled n e)
      ∙ (table_read lists.days (days_fit job lists p)).day (day_of_step job.run i) (omega (arith, hour_below p i h))

  -- the run whose hours read the list that it leaves
  runs_the_same : (n : ℕ) → checked job (room_for job lists) ≡ Ok n
      → run_by_table n (run_of job lists).days job 0 job.run.start (whole 0) lists.results ≡ (run_of job lists).ran
  unfolding run_of run_checked time_at
  runs_the_same n e =
      let p = passed job (room_for job lists) n e in
      let same : (k : ℕ) → k < 0 + n → step_by_table (run_of job lists).days job (time_at job.run k) ≡ step_at job (time_at job.run k) =
      λ k l. step_by_table_lem (run_of job lists).days job (time_at job.run k) (days_read n e p.0 k (omega (arith, l, p.1))) in
      runs_alike (run_of job lists).days job n 0 (whole 0) lists.results same
      ∙ sym (ap (λ (checks : Result ℕ Refusal). run_checked checks job lists.results) e)

  days_untouched : (r : Refusal) → checked job (room_for job lists) ≡ Err r → (run_of job lists).days ≡ lists.days
  unfolding run_of days_left
  days_untouched r e = ap (λ (checks : Result ℕ Refusal). days_left checks lists.days) e

  -- filled or not: what holds of the list as it was, and of it with the table, holds of the list that is left
  of_either : (P : List ℕ → Type 0) → P lists.days → (8784 ≤ length lists.days → P (with_day_table lists.days)) → P (run_of job lists).days
  of_either P old new = go (checked job (room_for job lists)) refl
    where
      go : (c : Result ℕ Refusal) → checked job (room_for job lists) ≡ c → P (run_of job lists).days
      go (Ok n) e = subst P (sym (days_filled n e)) (new (days_fit job lists (passed job (room_for job lists) n e).0))
      go (Err r) e = subst P (sym (days_untouched r e)) old

pub days_worked_out_once : DaysWorkedOutOnce
days_worked_out_once job lists = record {
  same_results = same_without job lists;
  table_filled = λ n e.
      let p = passed job (room_for job lists) n e in
      record {
        filled = days_filled job lists n e;
        day_in_year = λ i h. day_in_year p.0 i (subst (λ (m : ℕ). i < m) p.1 h);
        day_read = λ i h. days_read job lists n e p.0 i (subst (λ (m : ℕ). i < m) p.1 h);
        same_step = λ i h.
            step_by_table_lem (run_of job lists).days job (time_at job.run i) (days_read job lists n e p.0 i (subst (λ (m : ℕ). i < m) p.1 h));
        same_run = runs_the_same job lists n e;
      };
  untouched = days_untouched job lists;
  same_length = of_either job lists (λ (l : List ℕ). length l ≡ length lists.days) refl (length_with_table lists.days);
  bytes_behind = λ b k. of_either job lists (λ (l : List ℕ). get_or l b 0 ≡ get_or lists.days b 0) refl (λ h. byte_behind lists.days h b k);
}
