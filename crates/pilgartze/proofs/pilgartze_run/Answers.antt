-- `pilgartze_run` meets its contract.
use mathlib.Core.Path.{◌∙◌, ap}
use denote.Floats.{passes}
use mir.Facts.{to_z-of_z}
use Rattle.pilgartze.specs.CallAnswers.{answer_for, run_leaves}
use Rattle.pilgartze.proofs.pilgartze_run.Goals as goal

pub returns : goal.returns
unfolding run_leaves
returns c =
    let passed = c.well_formed.1.1.1.1.1.1.1.1.1.1.1.1.1.1.1 in
    let e = rw (c.surface_of-surface.ensures, c.site_of-site.ensures, to_z-of_z c.ranges.timezone) at c.run_job.ensures in
    let answer = c.from.ensures ∙ ap (λ x. answer_for x.ran.answer) e in
    let days = ap (λ x. x.days) e in
    let totals = ap (λ x. x.totals) e in
    let results = ap (λ x. x.ran.results) e in record {
      results_after = λ i. (answer i, days i, totals i, results i);
      doubles = record {
        height_fits = record { holds = passes _ passed.1.0.1 };
        width_fits = record { holds = passes _ passed.1.1.0.1 };
      };
    }
