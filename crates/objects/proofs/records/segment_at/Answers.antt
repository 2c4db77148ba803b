-- `segment_at` meets its contract, word by word: all 27 are there, and none that is read as a double is NaN.
use mathlib.Core.List.{[], ◌∷◌}
use Rattle.objects.specs.Records.{records_from, objects_from, segment_at}
use Rattle.objects.proofs.records.segment_at.Goals as goal

pub returns : goal.returns
unfolding segment_at objects_from records_from
returns c =
    let start360 = c.number_within-start360.ensures in
    let end360 = c.number_within-end360.ensures in
    let count = c.word_within-count.ensures in
    λ i. record { start360 = start360 i; end360 = end360 i; count = count i; shading_objects = c.object_at.ensures i ∷ c.object_at-2.ensures i ∷ c.object_at-3.ensures i ∷ c.object_at-4.ensures i ∷ c.object_at-5.ensures i ∷ c.object_at-6.ensures i ∷ c.object_at-7.ensures i ∷ c.object_at-8.ensures i ∷ [] }
