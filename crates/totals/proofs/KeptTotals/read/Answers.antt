-- `KeptTotals::read` meets its contract.
use mathlib.Core.Path.{sym, ap, ◌∙◌, subst}
use Prim.Native.Nat.{◌<◌}
use Rattle.jobs.specs.Totals.{totals_at}
use Rattle.jobs.proofs.TotalsLaws.{day_few, month_few}
use Rattle.totals.specs.declared.Parts.{Parts}
use Rattle.totals.specs.Kept.{parts_of, kept_totals}
use Rattle.totals.proofs.KeptTotals.read.Goals as goal

pub totals_at-requires : goal.totals_at-requires
unfolding parts_of
totals_at-requires c = subst (λ (p : Parts). p.day < 378) (sym c.parts_of-parts.ensures) (day_few c.args.leap c.args.day c.requires)

pub totals_at-requires-2 : goal.totals_at-requires-2
unfolding parts_of
totals_at-requires-2 c = subst (λ (p : Parts). p.month < 378) (sym c.parts_of-parts.ensures) (month_few c.args.leap c.args.day c.requires)

pub returns : goal.returns
unfolding parts_of kept_totals
returns c =
    let totals = c.args.totals.now in
    let parts = c.parts_of-parts.ensures in
    let day = c.totals_at.ensures ∙ ap (λ (p : Parts). totals_at totals p.day) parts in
    let month = c.totals_at-2.ensures ∙ ap (λ (p : Parts). totals_at totals p.month) parts in
    λ i. record { parts = parts i; day = day i; month = month i }
