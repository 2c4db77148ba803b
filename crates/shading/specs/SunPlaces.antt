-- The factor by what the walk along the sectors came to, however that was found. The laws of proofs/SunPlaces lead it back to
-- `shading_factor`.
use Rattle.std.specs.Prelude.{cond, List, ℕ, Float, Ok, Result}
use Rattle.doubles.specs.Arithmetic.{whole}
use Rattle.objects.specs.declared.answers.Refusal.{Refusal}
use Rattle.objects.specs.declared.surface.Surface.{Surface}
use Rattle.objects.specs.declared.sectors.ShadingSegment.{ShadingSegment}
use Rattle.objects.specs.declared.window.WindowShadingObject.{WindowShadingObject}
use Rattle.beam.specs.Beam.{outside_solar_beam}
use Rattle.shading.specs.Factor.{sun_on, factor_in}

-- outside the beam the sectors are not looked at
unfoldable pub factor_at : ℕ → Surface → Float → Float → Result ShadingSegment Refusal → List WindowShadingObject → Result Float Refusal
unfolding whole
factor_at edition surface altitude azimuth segment window =
    cond (outside_solar_beam surface.tilt surface.orientation altitude azimuth) (Ok (whole 1))
    (factor_in surface (sun_on edition surface altitude azimuth) window segment)
