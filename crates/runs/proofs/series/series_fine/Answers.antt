-- `series_fine` meets its contract. The loop's invariant: for each of the two tests, whether it has held so far, and what is left.
use Rattle.std.proofs.Common.{ap, ◌∙◌, arith}
use Rattle.weather.specs.Weather.{in_series, read_series, reading_fine}
use Rattle.jobs.specs.JobChecks.{indices_fine, readings_fine}
use Rattle.runs.proofs.AllSteps.{at_first, one_more, at_last, on_series, in_range}
use Rattle.runs.proofs.series.series_fine.Goals as goal

pub loop-init : goal.loop-init
loop-init c =
    let a = c.args in record {
      indices = at_first (on_series a.series a.start_day a.series_step) a.run.step a.count a.run.start;
      readings = at_first (in_range a.series a.start_day a.series_step) a.run.step a.count a.run.start;
    }

pub loop-preserved : goal.loop-preserved
loop-preserved c =
    let a = c.args in
    let q = c.loop in
    let on = on_series a.series a.start_day a.series_step in
    let fine = in_range a.series a.start_day a.series_step in
    let lists = a.series in
    let index = c.time_series_idx-index.ensures in
    let known = c.has_value_at-indices.ensures ∙ ap (in_series lists.diffuse.now lists.direct.now lists.reflectivity.now) index in
    let read = c.reading_fine-readings.ensures ∙ ap reading_fine (c.reading_at.ensures ∙ ap (read_series lists.diffuse.now lists.direct.now lists.reflectivity.now) index) in
    record {
      indices = one_more on a.run.step a.count q.indices q.counter q.time _ known (omega arith) ∙ q.invariant.indices;
      readings = one_more fine a.run.step a.count q.readings q.counter q.time _ read (omega arith) ∙ q.invariant.readings;
    }

pub returns : goal.returns
unfolding indices_fine readings_fine
returns c =
    let a = c.args in
    let q = c.loop in record {
      indices = at_last (on_series a.series a.start_day a.series_step) a.run.step a.count q.indices q.counter q.time (omega arith) ∙ q.invariant.indices;
      readings = at_last (in_range a.series a.start_day a.series_step) a.run.step a.count q.readings q.counter q.time (omega arith) ∙ q.invariant.readings;
    }
