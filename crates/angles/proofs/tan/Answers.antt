use Rattle.angles.specs.Sine.{tangent}
use Rattle.angles.proofs.tan.Goals as goal

pub returns : goal.returns
unfolding tangent
returns c = simp (c.sin_cos-both.ensures.0, c.sin_cos-both.ensures.1)
