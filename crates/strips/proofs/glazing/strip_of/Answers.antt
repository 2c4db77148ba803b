use mathlib.Core.Path.{refl}
use Rattle.strips.specs.Strips.{strip_of}
use Rattle.strips.proofs.glazing.strip_of.Goals as goal

pub returns : goal.returns
unfolding strip_of
returns c = refl
