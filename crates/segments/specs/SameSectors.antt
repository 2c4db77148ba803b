-- What the sectors at the same place of two lists must share for two walks along them to end alike.
use Rattle.doubles.specs.Order.{◌≈◌}
use Rattle.objects.specs.declared.sectors.ShadingSegment.{ShadingSegment}

-- two sectors that start and end alike, as numbers: the walk sees no sign of zero
pub record SameBounds (s t : ShadingSegment) : Type 0 where
  pub starts : s.start360 ≈ t.start360
  pub ends : s.end360 ≈ t.end360
