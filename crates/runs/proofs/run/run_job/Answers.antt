-- `run_job` meets its contract.
use mathlib.Core.Path.{◌≡◌, refl, sym, ap, ◌∙◌, subst}
use mathlib.Core.List.{List}
use Prim.Native.Nat.{ℕ, ◌*◌, ◌≤◌}
use Rattle.std.proofs.lemmas.Result.{err_from_is_err_and}
use lib.Ieee.Bits.{is_true}
use lib.ListN.{length}
use Rattle.jobs.specs.Totals.{totals_count}
use Rattle.words.specs.Words.{word_count}
use Rattle.days.specs.Table.{HoldsDays}
use Rattle.days.proofs.TableLaws.{table_read}
use Rattle.sun.specs.Site.{site_fine, leap_year_of, hours_in_year}
use Rattle.simulation_time.specs.RunChecks.{run_accepted}
use Rattle.object_checks.specs.Checks.{sectors_fine, window_fine}
use Rattle.jobs.specs.Run.{lent, room_for, days_left, totals_left, run_of, run_checked}
use Rattle.jobs.proofs.PassedChecks.{passed, days_fit, totals_fit, rows_fit}
use Rattle.totals.specs.Kept.{emptied}
use Rattle.totals.proofs.Kept.{length-emptied, emptied_again}
use Rattle.runs.specs.Asked.{job_lent}
use Rattle.runs.proofs.StepByStep.{totals_done}
use Rattle.runs.proofs.run.run_job.Goals as goal

pub fill_days-requires : goal.fill_days-requires
fill_days-requires c =
    let a = c.args in
    let job = job_lent a.job.now in
    let lists = lent a.days.now a.totals.now a.results.now in
    let checks = sym c.check_job.ensures ∙ c.in_ok-count.was in
    days_fit job lists (passed job (room_for job lists) _ checks).0

pub empty_totals-requires : goal.empty_totals-requires
empty_totals-requires c =
    let a = c.args in
    let job = job_lent a.job.now in
    let lists = lent a.days.now a.totals.now a.results.now in
    let checks = sym c.check_job.ensures ∙ c.in_ok-count.was in
    totals_fit job lists (passed job (room_for job lists) _ checks).0

pub invariant_of-run_steps : goal.invariant_of-run_steps
invariant_of-run_steps c =
    let a = c.args in
    let job = job_lent a.job.now in
    let lists = lent a.days.now a.totals.now a.results.now in
    let p = passed job (room_for job lists) _ (sym c.check_job.ensures ∙ c.in_ok-count.was) in
    record { filled = subst HoldsDays (sym c.fill_days.ensures) (table_read a.days.now (days_fit job lists p.0)) }

pub run_steps-requires : goal.run_steps-requires
run_steps-requires c =
    let a = c.args in
    let job = job_lent a.job.now in
    let lists = lent a.days.now a.totals.now a.results.now in
    let checks = sym c.check_job.ensures ∙ c.in_ok-count.was in
    let p = passed job (room_for job lists) _ checks in
    let leap = leap_year_of a.job.now.site in
    let empty = c.empty_totals.ensures in
    let none = subst (λ (l : List ℕ). l ≡ emptied leap l) (sym empty) (emptied_again leap a.totals.now) in
    let fits = totals_fit job lists p.0 in
    let wide = subst (λ (n : ℕ). 24 * totals_count leap ≤ n) (sym (ap length empty ∙ length-emptied leap a.totals.now fits)) fits in
    let rows = subst (λ (n : ℕ). 6 * n ≤ word_count a.results.now) (sym p.1) (rows_fit job lists p.0) in record { site_value = is_true (site_fine a.job.now.site) p.0.site_fine_lem; run_value = is_true (run_accepted (hours_in_year a.job.now.site) a.job.now.run) p.0.run_fine_lem; count_value = p.1; summer_value = is_true (sectors_fine a.job.now.summer.now) p.0.summer_fine; winter_value = is_true (sectors_fine a.job.now.winter.now) p.0.winter_fine; window_value = is_true (window_fine a.job.now.window.now) p.0.window_fine_lem; totals_value = none; site_in_bounds = wide; count_bound = rows }

pub returns-in_err-count : goal.returns-in_err-count
unfolding run_of run_checked days_left totals_left
returns-in_err-count c =
    let p = err_from_is_err_and c.from_residual.result c.from_residual.ensures.1 in
    rw (p.1, p.2, sym c.check_job.ensures ∙ c.in_err-count.was) refl

pub returns : goal.returns
unfolding run_of run_checked days_left totals_left
returns c =
    let a = c.args in
    let filled = c.fill_days.ensures in
    let empty = c.empty_totals.ensures in
    let stepped = c.run_steps.ensures in
    let totals = totals_done (leap_year_of a.job.now.site) a.job.now.run a.totals.now _ _ _ _ _ empty stepped.totals_after stepped.results_after in
    rw (sym c.check_job.ensures ∙ c.in_ok-count.was) (λ i. record { ran = stepped.results_after i; days = filled i; totals = totals i })
