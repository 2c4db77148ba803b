-- `strips_call` meets its contract: each check in its order, and then the factor.
use Rattle.std.proofs.Common.{◌≡◌, ◌&&◌, true, T, sym, subst}
use Rattle.std.proofs.lemmas.Result.{err_from_is_err_and}
use lib.Ieee.Bits.{is_true}
use lib.Ieee.Fits.{and_r}
use Rattle.shading.specs.Call.{sun_fine}
use Rattle.strips.specs.Strips.{strips_fine, strips_call}
use Rattle.strips.proofs.factor.strips_call.Goals as goal

pub returns-then-not-edition_fine : goal.returns-then-not-edition_fine
unfolding strips_call
returns-then-not-edition_fine c = rw (← c.edition_fine.ensures, c.if-not-edition_fine.true)

pub returns-then-not-sun_fine-strips_fine : goal.returns-then-not-sun_fine-strips_fine
unfolding strips_call
returns-then-not-sun_fine-strips_fine c =
    rw (← c.edition_fine.ensures, c.if-not-edition_fine.false, ← c.sun_fine.ensures, ← c.strips_fine.ensures, c.if-not-sun_fine-strips_fine.true)

pub returns-in_err-sectors : goal.returns-in_err-sectors
unfolding strips_call
returns-in_err-sectors c =
    let p = err_from_is_err_and c.from_residual.result c.from_residual.ensures.1 in
    rw (p.1, p.2, c.in_err-sectors.ensures.gives, ← c.edition_fine.ensures, c.if-not-edition_fine.false, ← c.sun_fine.ensures, ← c.strips_fine.ensures, c.if-not-sun_fine-strips_fine.false, ← c.in_err-sectors.ensures.accepts)

pub returns-in_err-window : goal.returns-in_err-window
unfolding strips_call
returns-in_err-window c =
    let p = err_from_is_err_and c.from_residual-in_err-window.result c.from_residual-in_err-window.ensures.1 in
    rw (p.1, p.2, c.in_err-window.ensures.gives, ← c.edition_fine.ensures, c.if-not-edition_fine.false, ← c.sun_fine.ensures, ← c.strips_fine.ensures, c.if-not-sun_fine-strips_fine.false, ← c.in_ok-sectors.ensures.accepts, ← c.in_err-window.ensures.accepts)

pub strips_factor-requires : goal.strips_factor-requires
strips_factor-requires c =
    let a = c.args in
    let fine = strips_fine a.glazing a.heights.now in
    let both : sun_fine a.altitude a.azimuth && fine ≡ true = rw (c.sun_fine.ensures, c.strips_fine.ensures) at c.if-not-sun_fine-strips_fine.false in
    is_true fine (and_r (sun_fine a.altitude a.azimuth) fine (subst T (sym both) tt))

pub returns : goal.returns
unfolding strips_call
returns c =
    rw (← c.edition_fine.ensures, c.if-not-edition_fine.false, ← c.sun_fine.ensures, ← c.strips_fine.ensures, c.if-not-sun_fine-strips_fine.false, ← c.in_ok-sectors.ensures.accepts, ← c.in_ok-window.ensures.accepts, ← c.in_ok-sectors.ensures.gives, ← c.in_ok-window.ensures.gives)
    c.strips_factor.ensures
