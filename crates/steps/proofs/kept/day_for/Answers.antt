-- `day_for` meets its contract.
use mathlib.Core.Path.{◌∙◌, ap, sym}
use Rattle.steps.specs.Kept.{kept_day}
use Rattle.steps.proofs.kept.day_for.Goals as goal

pub returns-then-index-kept : goal.returns-then-index-kept
returns-then-index-kept c = c.requires.kept_value ∙ ap kept_day (sym c.if-index-kept.true)
