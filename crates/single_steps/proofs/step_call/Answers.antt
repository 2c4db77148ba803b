-- `step_call` meets its contract: each check in its order, then the step.
use Rattle.std.proofs.Common.{◌≡◌, Ok, Err, refl, sym, ◌∙◌}
use Rattle.std.proofs.lemmas.Result.{err_from_is_err_and}
use Rattle.jobs.specs.JobChecks.{tried}
use Rattle.jobs.specs.Step.{sectors_at, step_with}
use Rattle.single_steps.specs.Single.{step_checked, unless_refused, stored_step, step_call}
use Rattle.single_steps.proofs.SingleSteps.{setting_passed, setting_refused}
use Rattle.single_steps.proofs.step_call.Goals as goal

pub returns-then-not-edition_fine : goal.returns-then-not-edition_fine
unfolding step_call step_checked unless_refused tried
returns-then-not-edition_fine c = rw (← c.edition_fine.ensures, c.if-not-edition_fine.true) refl

pub returns-in_err-check_setting : goal.returns-in_err-check_setting
unfolding step_call step_checked unless_refused stored_step tried
returns-in_err-check_setting c =
    let p = err_from_is_err_and c.from_residual.result c.from_residual.ensures.1 in
    rw (
      p.1,
      p.2,
      ← c.edition_fine.ensures,
      c.if-not-edition_fine.false,
      setting_refused c.args.site c.args.time c.args.surface _ (sym c.check_setting.ensures ∙ c.in_err-check_setting.was),
    )
    refl

pub returns-in_err-seasons : goal.returns-in_err-seasons
unfolding step_call step_checked unless_refused stored_step tried
returns-in_err-seasons c =
    let p = err_from_is_err_and c.from_residual-in_err-seasons.result c.from_residual-in_err-seasons.ensures.1 in
    rw (
      p.1,
      p.2,
      ← c.edition_fine.ensures,
      c.if-not-edition_fine.false,
      setting_passed c.args.site c.args.time c.args.surface _ (sym c.check_setting.ensures ∙ c.in_ok-check_setting.was),
      c.in_err-seasons.ensures.gives,
      ← c.in_err-seasons.ensures.accepts,
    )
    refl

pub returns-in_err-window : goal.returns-in_err-window
unfolding step_call step_checked unless_refused stored_step tried
returns-in_err-window c =
    let p = err_from_is_err_and c.from_residual-in_err-window.result c.from_residual-in_err-window.ensures.1 in
    rw (
      p.1,
      p.2,
      ← c.edition_fine.ensures,
      c.if-not-edition_fine.false,
      setting_passed c.args.site c.args.time c.args.surface _ (sym c.check_setting.ensures ∙ c.in_ok-check_setting.was),
      c.in_err-window.ensures.gives,
      ← c.in_ok-seasons.ensures.accepts,
      ← c.in_err-window.ensures.accepts,
    )
    refl

pub returns-in_err-check_values : goal.returns-in_err-check_values
unfolding step_call step_checked unless_refused stored_step tried
returns-in_err-check_values c =
    let p = err_from_is_err_and c.from_residual-in_err-check_values.result c.from_residual-in_err-check_values.ensures.1 in
    rw (
      p.1,
      p.2,
      ← c.edition_fine.ensures,
      c.if-not-edition_fine.false,
      setting_passed c.args.site c.args.time c.args.surface _ (sym c.check_setting.ensures ∙ c.in_ok-check_setting.was),
      ← c.in_ok-seasons.ensures.accepts,
      ← c.in_ok-window.ensures.accepts,
      sym c.check_values.ensures ∙ c.in_err-check_values.was,
    )
    refl

pub returns-in_err-row : goal.returns-in_err-row
unfolding step_call step_checked unless_refused stored_step tried sectors_at
returns-in_err-row c =
    let a = c.args in
    let g = c.in_ok-seasons.ensures.gives in
    let step : step_with a.edition a.site a.surface (sectors_at a.site a.summer.now a.winter.now a.time) a.window.now a.time a.reading ≡ Err c.in_err-row.field-0.0 =
    rw (g.0, g.1, g.2, g.3, c.in_ok-window.ensures.gives) at (sym c.step_with.ensures ∙ c.in_err-row.was)
    in
    let p = err_from_is_err_and c.from_residual-in_err-row.result c.from_residual-in_err-row.ensures.1 in
    rw (
      p.1,
      p.2,
      ← c.edition_fine.ensures,
      c.if-not-edition_fine.false,
      setting_passed c.args.site c.args.time c.args.surface _ (sym c.check_setting.ensures ∙ c.in_ok-check_setting.was),
      ← c.in_ok-seasons.ensures.accepts,
      ← c.in_ok-window.ensures.accepts,
      sym c.check_values.ensures ∙ c.in_ok-check_values.was,
      step,
    )
    refl

pub returns : goal.returns
unfolding step_call step_checked unless_refused stored_step tried sectors_at
returns c =
    let a = c.args in
    let g = c.in_ok-seasons.ensures.gives in
    let step : step_with a.edition a.site a.surface (sectors_at a.site a.summer.now a.winter.now a.time) a.window.now a.time a.reading ≡ Ok c.in_ok-row.row =
    rw (g.0, g.1, g.2, g.3, c.in_ok-window.ensures.gives) at (sym c.step_with.ensures ∙ c.in_ok-row.was)
    in
    rw (
      ← c.edition_fine.ensures,
      c.if-not-edition_fine.false,
      setting_passed c.args.site c.args.time c.args.surface _ (sym c.check_setting.ensures ∙ c.in_ok-check_setting.was),
      ← c.in_ok-seasons.ensures.accepts,
      ← c.in_ok-window.ensures.accepts,
      sym c.check_values.ensures ∙ c.in_ok-check_values.was,
      step,
      c.store_row.ensures,
    )
    refl
