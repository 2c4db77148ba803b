-- `check_job` meets its contract.
use Rattle.std.proofs.Common.{ℕ, Option, Some}
use mathlib.Core.Path.{◌≡◌, sym, ◌∙◌, ap, ap₂, subst}
use mathlib.Core.Bool.{true, ◌&&◌}
use lib.Dec.{T}
use Rattle.simulation_time.specs.declared.run.Run.{Run}
use Rattle.simulation_time.specs.Steps.{step_count}
use Rattle.simulation_time.specs.RunChecks.{run_accepted, checked_run}
use Rattle.simulation_time.proofs.HoursOfSteps.{run_passed, run_failed}
use Rattle.jobs.specs.Run.{lent, room_fine}
use Rattle.sun.specs.Site.{leap_year_of, hours_in_year}
use Rattle.runs.specs.Asked.{job_lent}
use Rattle.runs.proofs.CheckSteps.{edition_refused, site_refused, leaf_day_refused, run_refused, surface_refused, object_refused, first_passed, start_day_lem}
use Rattle.runs.proofs.run.check_job.Goals as goal

-- the run is accepted, and its steps are counted
counted : {n count : ℕ} {answer : Option ℕ} (hours : ℕ) (run : Run) → n ≡ hours → answer ≡ checked_run n run → answer ≡ Some count
    → (run_accepted hours run ≡ true) × (count ≡ step_count run)
counted {count = count} hours run e f is = run_passed hours run count (ap (λ (n : ℕ). checked_run n run) (sym e) ∙ sym f ∙ is)

pub returns-then-not-edition_fine : goal.returns-then-not-edition_fine
returns-then-not-edition_fine c =
    let a = c.args in
    let job = job_lent a.job.now in
    let room = room_fine (leap_year_of job.site) job.run (lent a.days.now a.totals.now a.results.now) in
    edition_refused job room (sym c.edition_fine.ensures ∙ c.if-not-edition_fine.true)

pub returns-then-not-site_fine : goal.returns-then-not-site_fine
returns-then-not-site_fine c =
    let a = c.args in
    let job = job_lent a.job.now in
    let room = room_fine (leap_year_of job.site) job.run (lent a.days.now a.totals.now a.results.now) in
    site_refused job room (sym c.edition_fine.ensures ∙ c.if-not-edition_fine.false) (sym c.site_fine.ensures ∙ c.if-not-site_fine.true)

pub returns-then-not-leaf_days_fine : goal.returns-then-not-leaf_days_fine
returns-then-not-leaf_days_fine c =
    let a = c.args in
    let job = job_lent a.job.now in
    let room = room_fine (leap_year_of job.site) job.run (lent a.days.now a.totals.now a.results.now) in
    let edition = sym c.edition_fine.ensures ∙ c.if-not-edition_fine.false in
    let site = sym c.site_fine.ensures ∙ c.if-not-site_fine.false in
    leaf_day_refused job room edition site (sym c.leaf_days_fine.ensures ∙ c.if-not-leaf_days_fine.true)

pub returns-in_default : goal.returns-in_default
returns-in_default c =
    let a = c.args in
    let job = job_lent a.job.now in
    let room = room_fine (leap_year_of job.site) job.run (lent a.days.now a.totals.now a.results.now) in
    let edition = sym c.edition_fine.ensures ∙ c.if-not-edition_fine.false in
    let site = sym c.site_fine.ensures ∙ c.if-not-site_fine.false in
    let leaf-days = sym c.leaf_days_fine.ensures ∙ c.if-not-leaf_days_fine.false in
    let h = ap (λ n. checked_run n job.run) (sym c.hours_in_year.ensures) ∙ sym c.check_run.ensures in
    run_refused job room edition site leaf-days (run_failed (hours_in_year job.site) job.run (h ∙ c.in_default.is))

pub returns-then-not-surface_fine : goal.returns-then-not-surface_fine
returns-then-not-surface_fine c =
    let a = c.args in
    let job = job_lent a.job.now in
    let room = room_fine (leap_year_of job.site) job.run (lent a.days.now a.totals.now a.results.now) in
    let edition = sym c.edition_fine.ensures ∙ c.if-not-edition_fine.false in
    let site = sym c.site_fine.ensures ∙ c.if-not-site_fine.false in
    let leaf-days = sym c.leaf_days_fine.ensures ∙ c.if-not-leaf_days_fine.false in
    let steps = (counted (hours_in_year job.site) job.run c.hours_in_year.ensures c.check_run.ensures c.in-Some.is).0 in
    surface_refused job room edition site leaf-days steps (sym c.surface_fine.ensures ∙ c.if-not-surface_fine.true)

pub returns-then-not-sectors_fine-window_fine : goal.returns-then-not-sectors_fine-window_fine
returns-then-not-sectors_fine-window_fine c =
    let a = c.args in
    let job = job_lent a.job.now in
    let room = room_fine (leap_year_of job.site) job.run (lent a.days.now a.totals.now a.results.now) in
    let edition = sym c.edition_fine.ensures ∙ c.if-not-edition_fine.false in
    let site = sym c.site_fine.ensures ∙ c.if-not-site_fine.false in
    let leaf-days = sym c.leaf_days_fine.ensures ∙ c.if-not-leaf_days_fine.false in
    let steps = (counted (hours_in_year job.site) job.run c.hours_in_year.ensures c.check_run.ensures c.in-Some.is).0 in
    let surface = sym c.surface_fine.ensures ∙ c.if-not-surface_fine.false in
    object_refused job room edition site leaf-days steps surface (sym (ap₂ ◌&&◌ (ap₂ ◌&&◌ c.sectors_fine.ensures c.sectors_fine-2.ensures) c.window_fine.ensures) ∙ c.if-not-sectors_fine-window_fine.true)

pub check_series-requires : goal.check_series-requires
check_series-requires c =
    let site = sym c.site_fine.ensures ∙ c.if-not-site_fine.false in
    record {
      start_day_bound = start_day_lem c.args.job.now.site (subst T (sym site) tt);
      count_value = (counted (hours_in_year c.args.job.now.site) c.args.job.now.run c.hours_in_year.ensures c.check_run.ensures c.in-Some.is).1;
    }

pub returns : goal.returns
returns c =
    let a = c.args in
    let job = job_lent a.job.now in
    let room = room_fine (leap_year_of job.site) job.run (lent a.days.now a.totals.now a.results.now) in
    let edition = sym c.edition_fine.ensures ∙ c.if-not-edition_fine.false in
    let site = sym c.site_fine.ensures ∙ c.if-not-site_fine.false in
    let leaf-days = sym c.leaf_days_fine.ensures ∙ c.if-not-leaf_days_fine.false in
    let steps = (counted (hours_in_year job.site) job.run c.hours_in_year.ensures c.check_run.ensures c.in-Some.is).0 in
    let surface = sym c.surface_fine.ensures ∙ c.if-not-surface_fine.false in
    c.check_series.ensures
    ∙ first_passed job room edition site leaf-days steps surface (sym (ap₂ ◌&&◌ (ap₂ ◌&&◌ c.sectors_fine.ensures c.sectors_fine-2.ensures) c.window_fine.ensures) ∙ c.if-not-sectors_fine-window_fine.false)
