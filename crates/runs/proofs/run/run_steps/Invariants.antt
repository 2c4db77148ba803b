-- `run_steps` meets its contract. The loop's invariant: from here the run goes on to what it comes to from the start, what is kept is
-- that of its hour, and the totals with what is kept of them are those of the steps so far.
use Rattle.std.proofs.Common.{◌≡◌, ◌-◌, ◌/◌, ◌<◌}
use Rattle.doubles.specs.Arithmetic.{whole}
use Rattle.calendar.specs.Calendar.{days_in_year}
use Rattle.sun.specs.Site.{leap_year_of}
use Rattle.simulation_time.specs.Steps.{time_at}
use Rattle.jobs.specs.Run.{run_from}
use Rattle.jobs.specs.Totals.{with_totals}
use Rattle.totals.specs.Kept.{kept_totals, put_kept}
use Rattle.runs.specs.Asked.{job_lent}
use Rattle.runs.specs.Kept.{kept_at}
use Rattle.runs.proofs.run.run_steps.Given as goal

abbrev pub invariant-loop-i : goal.invariant-loop-i
invariant-loop-i l =
    let job = job_lent l.job in
    let leap = leap_year_of l.site in
    let so_far = with_totals leap l.run l.results l.i l.initial.totals in
    record {
      kept : l.kept ≡ kept_at job l.kept.totals l.kept.hour.hour;
      time : l.time ≡ time_at l.run l.i;
      run : run_from (l.count - l.i) job l.i l.time l.sum l.results ≡ run_from l.count job 0 l.run.start (whole 0) l.initial.results;
      stored : put_kept l.totals l.kept.totals ≡ so_far;
      read : l.kept.totals ≡ kept_totals leap (l.kept.hour.hour / 24) so_far;
      day : l.kept.hour.hour / 24 < days_in_year leap;
    }
