-- The factor call: the edition is tried first (14), then surface and angles (3), then the lists (4), then the step itself (8 to 11).
use Rattle.std.specs.Prelude.{Bool, cond, ◌&&◌, List, ℕ, Float, Err, Result}
use Rattle.objects.specs.declared.answers.Refusal.{Refusal}
use Rattle.std.specs.Float.Ieee.{neg}
use Rattle.doubles.specs.Arithmetic.{whole}
use Rattle.doubles.specs.Ranges.{within}
use Rattle.objects.specs.declared.surface.Surface.{Surface}
use Rattle.objects.specs.declared.answers.Refusal.TheVariants as refusal
use Rattle.fins.specs.Fins.{edition_fine}
use Rattle.objects.specs.Surface.{surface_fine}
use Rattle.object_checks.specs.Checks.{sectors_fine, window_fine}
use Rattle.shading.specs.Factor.{shading_factor}
use Rattle.objects.specs.Records.{sectors_of, window_objects_of}

-- altitude 0..90, azimuth −360..360
unfoldable pub sun_fine : Float → Float → Bool
unfolding within whole neg
sun_fine altitude azimuth = within (whole 0) (whole 90) altitude && within (neg (whole 360)) (whole 360) azimuth

unfoldable pub factor_call : ℕ → Float → Float → Surface → List ℕ → List ℕ → Result Float Refusal
factor_call edition altitude azimuth surface sectors window =
    cond (edition_fine edition)
    (cond (sun_fine altitude azimuth && surface_fine surface)
    (cond (sectors_fine sectors && window_fine window)
    (shading_factor edition surface altitude azimuth (sectors_of sectors) (window_objects_of window))
    (Err refusal.Object))
    (Err refusal.Surface))
    (Err refusal.Edition)
