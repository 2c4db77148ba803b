-- `sectors_for` meets its contract.
use mathlib.Core.Path.{sym, ◌∙◌}
use Rattle.seasons.specs.Seasons.{sectors_for}
use Rattle.seasons.proofs.sectors_for.Goals as goal

pub returns-then-in_leaf : goal.returns-then-in_leaf
unfolding sectors_for
returns-then-in_leaf c = rw (sym c.in_leaf.ensures ∙ c.if-in_leaf.true) c.whole_records.ensures

pub returns : goal.returns
unfolding sectors_for
returns c = rw (sym c.in_leaf.ensures ∙ c.if-in_leaf.false) c.whole_records-2.ensures
