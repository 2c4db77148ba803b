use Rattle.doubles.specs.Functions.{to_degrees}
use Rattle.doubles.proofs.to_degrees.Goals as goal

pub returns : goal.returns
unfolding to_degrees
returns c = c.to_degrees.ensures
