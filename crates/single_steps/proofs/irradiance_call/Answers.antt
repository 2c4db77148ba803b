-- `irradiance_call` meets its contract.
use Rattle.std.proofs.Common.{refl, sym, ◌∙◌}
use Rattle.std.proofs.lemmas.Result.{err_from_is_err_and}
use Rattle.single_steps.specs.Single.{irradiance_checked, unless_refused, irradiance_call}
use Rattle.single_steps.proofs.SingleSteps.{setting_passed, setting_refused}
use Rattle.single_steps.proofs.irradiance_call.Goals as goal

pub returns-in_err-check_setting : goal.returns-in_err-check_setting
unfolding irradiance_call irradiance_checked unless_refused
returns-in_err-check_setting c =
    let p = err_from_is_err_and c.from_residual.result c.from_residual.ensures.1 in
    rw (p.1, p.2, setting_refused c.args.site c.args.time c.args.surface _ (sym c.check_setting.ensures ∙ c.in_err-check_setting.was)) refl

pub returns-in_err-check_values : goal.returns-in_err-check_values
unfolding irradiance_call irradiance_checked unless_refused
returns-in_err-check_values c =
    let p = err_from_is_err_and c.from_residual-in_err-check_values.result c.from_residual-in_err-check_values.ensures.1 in
    rw (p.1, p.2, setting_passed c.args.site c.args.time c.args.surface _ (sym c.check_setting.ensures ∙ c.in_ok-check_setting.was), sym c.check_values.ensures ∙ c.in_err-check_values.was) refl

pub returns : goal.returns
unfolding irradiance_call irradiance_checked unless_refused
returns c =
    rw (
      setting_passed c.args.site c.args.time c.args.surface _ (sym c.check_setting.ensures ∙ c.in_ok-check_setting.was),
      sym c.check_values.ensures ∙ c.in_ok-check_values.was,
      c.store_breakdown.ensures,
      c.irradiance_with-both.ensures.0,
      c.irradiance_with-both.ensures.1,
    )
    refl
