use lib.Ieee.{of_bits}
use Rattle.doubles.specs.Arithmetic.{bits}
use Rattle.irradiance.proofs.Constants.{cosine_85}
use Rattle.irradiance.specs.Surface.{a_over_b_of}
use Rattle.irradiance.proofs.surface.a_over_b.Goals as goal

pub returns : goal.returns
unfolding a_over_b_of of_bits bits
returns c = rw (c.max_of_2-2.ensures, c.max_of_2.ensures, cosine_85)
