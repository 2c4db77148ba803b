use Rattle.std.proofs.Common.{ap, ◌∙◌}
use Rattle.angles.specs.Sine.{sine, cosine}
use Rattle.sun.specs.Hour.{sin_cos_of}
use Rattle.sun.proofs.hour.sin_cos_of_degrees.Goals as goal

pub returns : goal.returns
unfolding sin_cos_of
returns c =
    let p = c.sin_cos.ensures in
    let q = c.to_radians.ensures in
    λ i. record { sin = (p.0 ∙ ap sine q) i; cos = (p.1 ∙ ap cosine q) i }
