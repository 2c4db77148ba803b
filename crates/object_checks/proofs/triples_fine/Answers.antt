-- `triples_fine` meets its contract: first the counted triples, then words that are zero.
use mathlib.Core.Path.{◌∙◌, ap₂}
use mathlib.Core.Bool.{◌&&◌}
use native.Mathlib.Omega.{arith}
use Rattle.object_checks.proofs.RecordLists.{triples_parted}
use Rattle.object_checks.proofs.triples_fine.Goals as goal

pub returns : goal.returns
returns c =
    let a = c.args in
    ap₂ ◌&&◌ c.counted_fine.ensures c.words_zero.ensures
    ∙ triples_parted a.bytes.now a.k a.count _ _ c.counted_places-n.ensures (omega arith)
