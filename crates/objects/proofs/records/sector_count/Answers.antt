use mathlib.Core.Path.{ap}
use Prim.Native.Nat.{ℕ, ◌/◌}
use Rattle.objects.specs.Records.{sector_count}
use Rattle.objects.proofs.records.sector_count.Goals as goal

pub returns : goal.returns
unfolding sector_count
returns c = ap (λ (n : ℕ). n / 27) c.word_count.ensures
