-- `window_object_at` meets its contract: the words are those of the definition.
use mathlib.Core.Path.{◌∙◌, ap}
use Rattle.objects.specs.Records.{window_kind, window_object_at}
use Rattle.objects.proofs.records.window_object_at.Goals as goal

pub returns : goal.returns
unfolding window_object_at
returns c =
    let kind = c.from-object_type.ensures ∙ ap window_kind c.word_at.ensures in
    let size = c.double_at-size.ensures in
    let distance = c.double_at-distance.ensures in
    let transparency = c.double_at-transparency.ensures in
    λ i. record { object_type = kind i; size = size i; distance = distance i; transparency = transparency i }
