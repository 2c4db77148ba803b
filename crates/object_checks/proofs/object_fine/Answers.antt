-- `object_fine` meets its contract: the words are there, and they are those of the definition.
use Rattle.object_checks.specs.Checks.{object_fine}
use Rattle.object_checks.proofs.object_fine.Goals as goal

pub returns : goal.returns
unfolding object_fine
returns c = rw (c.object_values_fine.ensures, c.double_within-2.ensures, c.double_within.ensures, c.word_within.ensures)
