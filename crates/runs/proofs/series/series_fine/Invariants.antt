-- `series_fine` meets its contract. The loop's invariant: for each of the two tests, whether it has held so far, and what is left.
use Rattle.std.proofs.Common.{◌≡◌, ◌&&◌}
use Rattle.simulation_time.specs.Steps.{times_from, at_all}
use Rattle.runs.proofs.AllSteps.{left, on_series, in_range}
use Rattle.runs.proofs.series.series_fine.Given as goal

abbrev pub invariant-loop : goal.invariant-loop
invariant-loop l =
    let on = on_series l.series l.start_day l.series_step in
    let fine = in_range l.series l.start_day l.series_step in
    let times = times_from l.count l.run.step l.run.start in
    record {
      indices : l.indices && left on l.run.step l.count l.counter l.time ≡ at_all on times;
      readings : l.readings && left fine l.run.step l.count l.counter l.time ≡ at_all fine times;
    }
