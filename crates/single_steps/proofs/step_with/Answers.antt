-- `step_with` meets its contract: what is kept of the hour is that of the time.
use Rattle.std.proofs.Common.{refl, ◌∙◌, ap, ℕ, ◌/◌}
use Rattle.objects.specs.Records.{sectors_of}
use Rattle.seasons.specs.Seasons.{sectors_for}
use Rattle.steps.specs.Kept.{kept_hour, step_kept}
use Rattle.steps.proofs.StepKept.{kept_factor, by_kept}
use Rattle.single_steps.proofs.step_with.Goals as goal

pub kept_hour-kept-requires : goal.kept_hour-kept-requires
kept_hour-kept-requires c = record { fixed_value = c.fixed_of-fixed.ensures; day_value = c.kept_day-day.ensures }

pub returns : goal.returns
unfolding step_kept
returns c =
    let a = c.args in
    let s = a.seasons in
    let hour = c.current_hour-hour.ensures in
    let kept = c.kept_hour-kept.ensures ∙ ap (kept_hour a.site a.surface) hour in
    let sectors = c.sectors-sectors.ensures ∙ ap (λ (h : ℕ). sectors_for s.summer.bytes.now s.winter.bytes.now s.first s.last (h / 24)) hour in
    let factor = kept_factor a.site a.surface _ _ kept a.edition _ a.window.bytes.now _ _ _ (ap sectors_of sectors) refl c.direct_shading_reduction_factor-factor.ensures in
    by_kept a.edition a.site a.surface _ a.window.bytes.now a.time a.reading _ _ _ _ c.fixed_of-fixed.ensures kept factor c.step_row.ensures
