-- `sector_record_fine` meets its contract: the words are there, and they are those of the definition.
use Rattle.object_checks.specs.Checks.{sector_record_fine}
use Rattle.object_checks.proofs.sector_record_fine.Goals as goal

pub returns : goal.returns
unfolding sector_record_fine
returns c =
    rw (
      c.triples_fine.ensures,
      c.bounds_fine.ensures,
      c.double_within-2.ensures,
      c.double_within.ensures,
      c.word_within-count.ensures,
    )
