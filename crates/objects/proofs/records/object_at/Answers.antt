-- `object_at` meets its contract: the words are those of the definition.
use mathlib.Core.Path.{◌∙◌, ap}
use Rattle.objects.specs.Records.{distant_kind, object_at}
use Rattle.objects.proofs.records.object_at.Goals as goal

pub returns : goal.returns
unfolding object_at
returns c =
    let kind = c.from.ensures ∙ ap distant_kind c.word_within.ensures in
    let height = c.number_within.ensures in
    let distance = c.number_within-2.ensures in
    λ i. record { object_type = kind i; height = height i; distance = distance i }
