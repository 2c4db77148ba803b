-- The sun on an inclined surface (ISO 52010-1), in the Rust's order of operations: the angle of incidence and the ratio a / b.
-- Angles are in degrees; the formulas name the sines and cosines of latitude l, declination d, tilt t, orientation o (from south,
-- eastwards positive) and hour angle w.
use Rattle.std.specs.Prelude.{Float}
use Rattle.doubles.specs.Arithmetic.{◌⊕◌, ◌⊖◌, ◌⊗◌, ◌⊘◌, whole}
use Rattle.doubles.specs.Functions.{max_of2, to_radians, to_degrees}
use Rattle.angles.specs.declared.SinCos.{SinCos}
use Rattle.angles.specs.Sine.{cosine}
use Rattle.arcsines.specs.Arcsine.{complement, arccosine}
use Rattle.sun.specs.declared.hour.Hour.{Hour}
use Rattle.irradiance.specs.declared.surface.Incidence.{Incidence}

-- the cosine of an angle in degrees
unfoldable pub cosine_of_degrees : Float → Float
cosine_of_degrees degrees = cosine (to_radians degrees)

-- the sum whose arccosine is the angle of incidence
unfoldable pub incidence_argument : SinCos → SinCos → SinCos → SinCos → SinCos → Float
incidence_argument l d t o w =
    d.sin ⊗ l.sin ⊗ t.cos
    ⊖ d.sin ⊗ l.cos ⊗ t.sin ⊗ o.cos
    ⊕ d.cos ⊗ l.cos ⊗ t.cos ⊗ w.cos
    ⊕ d.cos ⊗ l.sin ⊗ t.sin ⊗ o.cos ⊗ w.cos
    ⊕ d.cos ⊗ t.sin ⊗ o.sin ⊗ w.sin

-- The solar angle of incidence, from 0 to 180. A sum that rounds above 1 gives 0.
unfoldable pub incidence_angle : SinCos → SinCos → SinCos → SinCos → SinCos → Float
unfolding incidence_argument
incidence_angle l d t o w = to_degrees (arccosine (incidence_argument l d t o w))

-- its cosine, by the arcsine of the sum: an arccosine is the arcsine's complement
unfoldable pub incidence_cosine : Float → Float
unfolding cosine_of_degrees
incidence_cosine arc = cosine_of_degrees (to_degrees (complement arc))

-- the incidence-weighted solid angles of the circumsolar region, as the surface and as the horizontal see it
unfoldable pub a_over_b_of : Float → Float → Float
unfolding whole cosine_of_degrees
a_over_b_of cos_incidence cos_zenith = max_of2 (whole 0) cos_incidence ⊘ max_of2 (cosine_of_degrees (whole 85)) cos_zenith

-- The sun on the surface in one hour: the cosine of its incidence, and a / b.
unfoldable pub incidence_by : Float → Float → Incidence
unfolding a_over_b_of
incidence_by cos_incidence cos_zenith = record { cos = cos_incidence; a_over_b = a_over_b_of cos_incidence cos_zenith }

unfoldable pub incidence_of : SinCos → SinCos → SinCos → SinCos → Hour → Incidence
unfolding incidence_angle cosine_of_degrees incidence_by
incidence_of l d t o hour = incidence_by (cosine_of_degrees (incidence_angle l d t o hour.hour_angle)) hour.cos_zenith
