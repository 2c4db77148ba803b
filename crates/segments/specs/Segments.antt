-- The walk along the sectors (`get_segment`): at each, gap, then turned, then match. It stops at the match, so that later sectors
-- go unexamined. Both ends of a match are strict.
use Rattle.std.specs.Prelude.{Ok, Err, Result, Bool, cond, ◌&&◌, List, [], ◌∷◌, ℕ, zero, suc, ◌+◌, Float}
use Rattle.std.specs.Float.Ieee.{lt, ne}
use Rattle.objects.specs.declared.answers.Refusal.{Refusal}
use Rattle.objects.specs.declared.answers.Refusal.TheVariants as refusal
use Rattle.objects.specs.declared.sectors.ShadingSegment.{ShadingSegment}
use Rattle.orientation.specs.Orientation.{orientation180}

-- ---- the place

-- the sun is strictly between the ends
unfoldable pub between_ends : Float → Float → Float → Bool
unfolding orientation180
between_ends azimuth start360 end360 = lt azimuth (orientation180 start360) && lt (orientation180 end360) azimuth

unfoldable pub holds_azimuth : Float → ShadingSegment → Bool
unfolding between_ends
holds_azimuth azimuth s = between_ends azimuth s.start360 s.end360

-- at the i-th sector: turned, then match, then what the rest of the walk comes to
unfoldable pub visit : Float → ℕ → ShadingSegment → Result ℕ Refusal → Result ℕ Refusal
unfolding holds_azimuth
visit azimuth i s rest = cond (lt s.end360 s.start360) (Err refusal.Turned) (cond (holds_azimuth azimuth s) (Ok i) rest)

-- the walk from the i-th sector on, the end of the one before being `last`
unfoldable pub place_from : Float → Float → ℕ → List ShadingSegment → Result ℕ Refusal
unfolding visit
place_from azimuth last i [] = Err refusal.NoSector
place_from azimuth last i (s ∷ rest) = cond (ne last s.start360) (Err refusal.Gap) (visit azimuth i s (place_from azimuth s.end360 (i + 1) rest))

-- where the walk ends: the place of the sector that has the sun, counted from 0, or why there is none. The first sector's start is free.
unfoldable pub place_of : Float → List ShadingSegment → Result ℕ Refusal
unfolding visit place_from
place_of azimuth [] = Err refusal.NoSector
place_of azimuth (s ∷ rest) = visit azimuth 0 s (place_from azimuth s.end360 1 rest)

-- ---- the sector at the place

-- a place of a list has its record; a place beyond it has none
unfoldable pub sector_at : List ShadingSegment → ℕ → Result ShadingSegment Refusal
sector_at [] i = Err refusal.NoSector
sector_at (s ∷ rest) zero = Ok s
sector_at (s ∷ rest) (suc i) = sector_at rest i

unfoldable pub segment_in : List ShadingSegment → Result ℕ Refusal → Result ShadingSegment Refusal
unfolding sector_at
segment_in l (Ok i) = sector_at l i
segment_in l (Err r) = Err r

-- the sector that has the sun, or why there is none
unfoldable pub segment_of : Float → List ShadingSegment → Result ShadingSegment Refusal
unfolding segment_in place_of
segment_of azimuth l = segment_in l (place_of azimuth l)
