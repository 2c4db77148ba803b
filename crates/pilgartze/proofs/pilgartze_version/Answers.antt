-- `pilgartze_version` meets its contract.
use mathlib.Core.Path.{refl}
use Rattle.pilgartze.specs.Version.{version}
use Rattle.pilgartze.proofs.pilgartze_version.Goals as goal

pub returns : goal.returns
unfolding version
returns c = refl
