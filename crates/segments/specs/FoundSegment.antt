-- Where the walk ends, and the sector there.
use Rattle.std.specs.Prelude.{Result, List, ℕ, Float, get_or}
use Rattle.std.specs.Result.{result_map_both}
use Rattle.objects.specs.declared.answers.Refusal.{Refusal}
use Rattle.objects.specs.declared.sectors.ShadingSegment.{ShadingSegment}
use Rattle.objects.specs.Records.{no_segment}
use Rattle.segments.specs.declared.FoundSegment.{FoundSegment}
use Rattle.segments.specs.Segments.{place_of}

-- what is read of what the walk comes to; a refusal stays as it is
abbrev pub of_found : {Found Read : Type 0} → (Found → Read) → Result Found Refusal → Result Read Refusal
of_found read = result_map_both read (λ (r : Refusal). r)

-- a place of a list, with the sector there
abbrev pub found_at : List ShadingSegment → ShadingSegment → ℕ → FoundSegment
found_at sectors blank i = record { place = i; segment = get_or sectors i blank }

-- the place of the sector that has the sun, and that sector, or why there is none
unfoldable pub segment_found : Float → List ShadingSegment → Result FoundSegment Refusal
segment_found azimuth sectors = of_found (found_at sectors no_segment) (place_of azimuth sectors)
