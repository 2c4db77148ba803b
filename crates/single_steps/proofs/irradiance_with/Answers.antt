-- `irradiance_with` meets its contract: what is kept of the hour is that of the time.
use mathlib.Core.Path.{◌∙◌, ap}
use Rattle.steps.specs.Kept.{kept_hour}
use Rattle.steps.proofs.StepKept.{sun_by_kept, irradiance_by_kept}
use Rattle.single_steps.proofs.irradiance_with.Goals as goal

pub kept_hour-kept-requires : goal.kept_hour-kept-requires
kept_hour-kept-requires c = record { fixed_value = c.fixed_of-fixed.ensures; day_value = c.kept_day-day.ensures }

pub returns : goal.returns
returns c =
    let a = c.args in
    let kept = c.kept_hour-kept.ensures ∙ ap (kept_hour a.site a.surface) c.current_hour-hour.ensures in (
      sun_by_kept a.site a.surface a.time _ kept,
      c.irradiance_kept-parts.ensures ∙ irradiance_by_kept a.site a.surface a.time _ kept a.reading _ c.fixed_of-fixed.ensures,
    )
