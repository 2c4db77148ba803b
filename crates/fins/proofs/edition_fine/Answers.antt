use mathlib.Core.Path.{refl}
use Rattle.fins.specs.Fins.{edition_fine}
use Rattle.fins.proofs.edition_fine.Goals as goal

pub returns : goal.returns
unfolding edition_fine
returns c = refl
