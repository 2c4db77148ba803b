-- `whole_records` meets its contract.
use mathlib.Core.Path.{refl}
use native.Mathlib.Omega.{arith}
use Rattle.seasons.specs.Seasons.{whole_records}
use Rattle.seasons.proofs.Parts.{taken_length}
use Rattle.seasons.proofs.whole_records.Goals as goal

-- the part is not longer than the list
pub slice_bounds-result-end : goal.slice_bounds-result-end
slice_bounds-result-end c = taken_length c.args.list.now _ (omega arith)

pub returns : goal.returns
unfolding whole_records
returns c = refl
