use Rattle.angles.specs.Sine.{tangent}
use Rattle.shading.specs.Factor.{sun_on}
use Rattle.shading.proofs.sun_on_surface.sun_on.Goals as goal

-- the quotient is the difference's tangent
pub fins_of-requires : goal.fins_of-requires
unfolding tangent
fins_of-requires c =
    let both = c.sin_cos-both.ensures in
    rw (both.0, both.1, c.to_radians-radians.ensures)

pub returns : goal.returns
unfolding sun_on
returns c =
    rw (
      c.tan.ensures,
      c.to_radians.ensures,
      c.sin_cos-both.ensures.1,
      c.fins_of.ensures,
      c.to_radians-radians.ensures,
      c.transform_to_180.ensures,
    )
