-- `in_leaf` meets its contract.
use borrow.Author.Tests.{le-leb, lt-leb}
use Rattle.seasons.specs.Seasons.{in_leaf}
use Rattle.seasons.proofs.in_leaf.Goals as goal

pub returns-then-first-last : goal.returns-then-first-last
unfolding in_leaf
returns-then-first-last c = simp (le-leb _ _ c.if-first-last.true)

pub returns : goal.returns
unfolding in_leaf
returns c = simp (lt-leb _ _ c.if-first-last.false)
