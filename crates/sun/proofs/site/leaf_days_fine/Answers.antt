-- `leaf_days_fine` meets its contract.
use Rattle.std.proofs.Common.{refl}
use Rattle.sun.specs.Site.{leaf_days_fine}
use Rattle.sun.proofs.site.leaf_days_fine.Goals as goal

pub returns : goal.returns
unfolding leaf_days_fine
returns c = refl
