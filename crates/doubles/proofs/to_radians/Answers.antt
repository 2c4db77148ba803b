use Rattle.doubles.specs.Functions.{to_radians}
use Rattle.doubles.proofs.to_radians.Goals as goal

pub returns : goal.returns
unfolding to_radians
returns c = c.to_radians.ensures
