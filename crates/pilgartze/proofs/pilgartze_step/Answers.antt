-- `pilgartze_step` meets its contract.
use mathlib.Core.Path.{◌∙◌, ap}
use mir.Facts.{to_z-of_z}
use Rattle.single_steps.specs.Single.{single_number}
use Rattle.pilgartze.specs.CallAnswers.{call_leaves}
use Rattle.pilgartze.proofs.pilgartze_step.Goals as goal

pub returns : goal.returns
unfolding call_leaves
returns c =
    let e = rw (c.surface_of-surface.ensures, c.site_of-site.ensures, to_z-of_z c.ranges.timezone) at c.step_call.ensures in
    let answer = c.single_number.ensures ∙ ap (λ x. single_number x.answer) e in
    let results = ap (λ x. x.results) e in
    λ i. (answer i, results i)
