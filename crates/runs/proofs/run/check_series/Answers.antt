-- `check_series` meets its contract.
use Rattle.std.specs.Prelude.{Ok}
use Rattle.std.proofs.Common.{◌≡◌, ℕ, Bool, sym, ap, ◌∙◌}
use borrow.Author.Tests.{not-true, not-false}
use lib.Ieee.{Float}
use Rattle.sun.specs.Site.{leap_year_of}
use Rattle.simulation_time.specs.declared.run.Run.{Run}
use Rattle.simulation_time.specs.Steps.{step_count, times, times_from}
use Rattle.weather.specs.declared.Series.{Series}
use Rattle.jobs.specs.Run.{lent, room_fine}
use Rattle.runs.proofs.CheckSteps.{series_refused, reading_refused, results_refused, series_passed}
use Rattle.jobs.specs.JobChecks.{indices_fine, readings_fine}
use Rattle.runs.proofs.run.check_series.Goals as goal

-- the steps that are counted are the run's
module _ (day : ℕ) (width : Float) (run : Run) (count : ℕ) (counted : count ≡ step_count run) (series : Series) (b : Bool) where
  indices : b ≡ indices_fine day width series.diffuse.now series.direct.now series.reflectivity.now (times_from count run.step run.start)
      → indices_fine day width series.diffuse.now series.direct.now series.reflectivity.now (times run) ≡ b
  indices e = unfold times in
      sym (e ∙ ap (λ (n : ℕ). indices_fine day width series.diffuse.now series.direct.now series.reflectivity.now (times_from n run.step run.start)) counted)

  readings : b ≡ readings_fine day width series.diffuse.now series.direct.now series.reflectivity.now (times_from count run.step run.start)
      → readings_fine day width series.diffuse.now series.direct.now series.reflectivity.now (times run) ≡ b
  readings e = unfold times in
      sym (e ∙ ap (λ (n : ℕ). readings_fine day width series.diffuse.now series.direct.now series.reflectivity.now (times_from n run.step run.start)) counted)

pub returns-then-not-fine : goal.returns-then-not-fine
returns-then-not-fine c =
    let job = c.args.job.now in
    let lists = job.series in
    let room = room_fine (leap_year_of job.site) job.run (lent c.args.days.now c.args.totals.now c.args.results.now) in
    let i = indices job.site.start_day job.site.time_series_step job.run c.args.count c.requires.count_value lists _ c.series_fine-fine.ensures.indices in
    series_refused job.site.start_day job.site.time_series_step job.run lists.diffuse.now lists.direct.now lists.reflectivity.now room (i ∙ not-true _ c.if-not-fine.true)

pub returns-then-not-fine-2 : goal.returns-then-not-fine-2
returns-then-not-fine-2 c =
    let job = c.args.job.now in
    let lists = job.series in
    let room = room_fine (leap_year_of job.site) job.run (lent c.args.days.now c.args.totals.now c.args.results.now) in
    let i = indices job.site.start_day job.site.time_series_step job.run c.args.count c.requires.count_value lists _ c.series_fine-fine.ensures.indices in
    let r = readings job.site.start_day job.site.time_series_step job.run c.args.count c.requires.count_value lists _ c.series_fine-fine.ensures.readings in
    reading_refused job.site.start_day job.site.time_series_step job.run lists.diffuse.now lists.direct.now lists.reflectivity.now room
    (i ∙ not-false _ c.if-not-fine.false) (r ∙ not-true _ c.if-not-fine-2.true)

pub returns-then-not-room_fine : goal.returns-then-not-room_fine
returns-then-not-room_fine c =
    let job = c.args.job.now in
    let lists = job.series in
    let room = room_fine (leap_year_of job.site) job.run (lent c.args.days.now c.args.totals.now c.args.results.now) in
    let i = indices job.site.start_day job.site.time_series_step job.run c.args.count c.requires.count_value lists _ c.series_fine-fine.ensures.indices in
    let r = readings job.site.start_day job.site.time_series_step job.run c.args.count c.requires.count_value lists _ c.series_fine-fine.ensures.readings in
    results_refused job.site.start_day job.site.time_series_step job.run lists.diffuse.now lists.direct.now lists.reflectivity.now room
    (i ∙ not-false _ c.if-not-fine.false) (r ∙ not-false _ c.if-not-fine-2.false) (sym c.room_fine.ensures ∙ c.if-not-room_fine.true)

pub returns : goal.returns
returns c =
    let job = c.args.job.now in
    let lists = job.series in
    let room = room_fine (leap_year_of job.site) job.run (lent c.args.days.now c.args.totals.now c.args.results.now) in
    let i = indices job.site.start_day job.site.time_series_step job.run c.args.count c.requires.count_value lists _ c.series_fine-fine.ensures.indices in
    let r = readings job.site.start_day job.site.time_series_step job.run c.args.count c.requires.count_value lists _ c.series_fine-fine.ensures.readings in
    ap Ok c.requires.count_value
    ∙ series_passed job.site.start_day job.site.time_series_step job.run lists.diffuse.now lists.direct.now lists.reflectivity.now room
    (i ∙ not-false _ c.if-not-fine.false) (r ∙ not-false _ c.if-not-fine-2.false) (sym c.room_fine.ensures ∙ c.if-not-room_fine.false)
