-- `window_record_fine` meets its contract: the words are those of the definition.
use Rattle.object_checks.specs.Checks.{window_record_fine}
use Rattle.object_checks.proofs.window_record_fine.Goals as goal

pub returns : goal.returns
unfolding window_record_fine
returns c = rw (c.window_values_fine.ensures, c.word_at-spare.ensures, c.double_at-transparency.ensures, c.double_at-distance.ensures, c.double_at-size.ensures, c.word_at-kind.ensures)
