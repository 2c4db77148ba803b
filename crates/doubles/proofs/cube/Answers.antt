use Rattle.std.proofs.Common.{refl}
use Rattle.doubles.specs.Functions.{cube_of}
use Rattle.doubles.proofs.cube.Goals as goal

pub returns : goal.returns
unfolding cube_of
returns c = refl
