use mathlib.Core.Path.{refl}
use Rattle.shading.specs.Factor.{sunlit_part}
use Rattle.shading.proofs.factor.sunlit_part.Goals as goal

pub returns : goal.returns
unfolding sunlit_part
returns c = refl
