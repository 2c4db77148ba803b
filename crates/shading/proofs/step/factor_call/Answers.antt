-- `factor_call` meets its contract: each check in its order, and then the factor.
use Rattle.std.proofs.lemmas.Result.{err_from_is_err_and}
use Rattle.shading.specs.Call.{factor_call}
use Rattle.shading.proofs.step.factor_call.Goals as goal

pub returns-then-not-edition_fine : goal.returns-then-not-edition_fine
unfolding factor_call
returns-then-not-edition_fine c = rw (← c.edition_fine.ensures, c.if-not-edition_fine.true)

pub returns-then-not-sun_fine-surface_fine : goal.returns-then-not-sun_fine-surface_fine
unfolding factor_call
returns-then-not-sun_fine-surface_fine c =
    rw (← c.edition_fine.ensures, c.if-not-edition_fine.false, ← c.sun_fine.ensures, ← c.surface_fine.ensures, c.if-not-sun_fine-surface_fine.true)

pub returns-in_err-sectors : goal.returns-in_err-sectors
unfolding factor_call
returns-in_err-sectors c =
    let p = err_from_is_err_and c.from_residual.result c.from_residual.ensures.1 in
    rw (p.1, p.2, c.in_err-sectors.ensures.gives, ← c.edition_fine.ensures, c.if-not-edition_fine.false, ← c.sun_fine.ensures, ← c.surface_fine.ensures, c.if-not-sun_fine-surface_fine.false, ← c.in_err-sectors.ensures.accepts)

pub returns-in_err-window : goal.returns-in_err-window
unfolding factor_call
returns-in_err-window c =
    let p = err_from_is_err_and c.from_residual-in_err-window.result c.from_residual-in_err-window.ensures.1 in
    rw (p.1, p.2, c.in_err-window.ensures.gives, ← c.edition_fine.ensures, c.if-not-edition_fine.false, ← c.sun_fine.ensures, ← c.surface_fine.ensures, c.if-not-sun_fine-surface_fine.false, ← c.in_ok-sectors.ensures.accepts, ← c.in_err-window.ensures.accepts)

pub returns : goal.returns
unfolding factor_call
returns c =
    rw (← c.edition_fine.ensures, c.if-not-edition_fine.false, ← c.sun_fine.ensures, ← c.surface_fine.ensures, c.if-not-sun_fine-surface_fine.false, ← c.in_ok-sectors.ensures.accepts, ← c.in_ok-window.ensures.accepts, ← c.in_ok-sectors.ensures.gives, ← c.in_ok-window.ensures.gives)
    c.direct_shading_reduction_factor.ensures
