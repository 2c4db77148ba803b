-- When a surface is turned down (refusal 3).
use Rattle.std.specs.Prelude.{Bool, ◌&&◌}
use Rattle.doubles.specs.Arithmetic.{whole, decimal}
use Rattle.doubles.specs.Ranges.{within}
use Rattle.objects.specs.declared.surface.Surface.{Surface}

-- tilt 0..180, orientation 0..360 (degrees), base height 0..1000, height and width 0.001..1000 (metres)
unfoldable pub surface_fine : Surface → Bool
unfolding within whole decimal
surface_fine s =
    within (whole 0) (whole 180) s.tilt
    && within (whole 0) (whole 360) s.orientation
    && within (whole 0) (whole 1000) s.base_height
    && within (decimal 1 3) (whole 1000) s.height
    && within (decimal 1 3) (whole 1000) s.width
