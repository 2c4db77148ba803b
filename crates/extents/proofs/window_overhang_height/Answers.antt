use mathlib.Core.Path.{refl}
use Rattle.extents.specs.Extents.{window_overhang_height}
use Rattle.extents.proofs.window_overhang_height.Goals as goal

pub returns : goal.returns
unfolding window_overhang_height
returns c = refl
