-- `step_row` meets its contract.
use Rattle.std.proofs.Common.{refl}
use Rattle.std.proofs.lemmas.Result.{err_from_is_err_and}
use Rattle.jobs.specs.Step.{row_with}
use Rattle.steps.proofs.rows.step_row.Goals as goal

pub returns-in_err-factor : goal.returns-in_err-factor
unfolding row_with
returns-in_err-factor c =
    let p = err_from_is_err_and c.from_residual.result c.from_residual.ensures.1 in
    rw (p.1, p.2, c.in_err-factor.was) refl

pub returns : goal.returns
unfolding row_with
returns c = rw (c.irradiance_kept-parts.ensures, c.in_ok-factor.was) refl
