-- The factor by the place where the walk ends and by the sector there is the factor. Assumes nothing.
use Rattle.std.proofs.Common.{◌≡◌, ℕ, Bool, true, false, cond, List, Float, Result, Ok, Err, take, get_or, refl, sym, ap, ◌∙◌}
use Rattle.objects.specs.declared.answers.Refusal.{Refusal}
use Rattle.objects.specs.declared.surface.Surface.{Surface}
use Rattle.objects.specs.declared.sectors.ShadingSegment.{ShadingSegment}
use Rattle.objects.specs.declared.window.WindowShadingObject.{WindowShadingObject}
use Rattle.doubles.specs.Arithmetic.{whole}
use Rattle.beam.specs.Beam.{outside_solar_beam}
use Rattle.segments.specs.declared.FoundSegment.{FoundSegment}
use Rattle.segments.specs.Segments.{place_of, segment_in, segment_of}
use Rattle.segments.specs.FoundSegment.{of_found, segment_found}
use Rattle.segments.proofs.Places.{record_taken, sector_found}
use Rattle.shading.specs.Factor.{sun_on, factor_in, shading_factor}
use Rattle.shading.specs.SunPlaces.{factor_at}

module _ (edition : ℕ) (surface : Surface) (altitude azimuth : Float) (window : List WindowShadingObject) where
  -- by the sector that has the sun, or why there is none; outside the beam nothing is asked of it
  pub factor_by_sector : (sectors : List ShadingSegment) (r : Result ShadingSegment Refusal)
      → (outside_solar_beam surface.tilt surface.orientation altitude azimuth ≡ false → segment_of azimuth sectors ≡ r)
      → factor_at edition surface altitude azimuth r window ≡ shading_factor edition surface altitude azimuth sectors window
  unfolding factor_at shading_factor
  factor_by_sector sectors r e = go (outside_solar_beam surface.tilt surface.orientation altitude azimuth) e
    where
      factor : Result ShadingSegment Refusal → Result Float Refusal
      factor = factor_in surface (sun_on edition surface altitude azimuth) window

      go : (b : Bool) → (b ≡ false → segment_of azimuth sectors ≡ r) → cond b (Ok (whole 1)) (factor r) ≡ cond b (Ok (whole 1)) (factor (segment_of azimuth sectors))
      go true h = refl
      go false h = ap factor (sym (h refl))

  -- by the place where the walk ends, or why at none; `at` gives the sector at a place
  pub factor_by_place : (sectors : List ShadingSegment) (at : ℕ → ShadingSegment) → ((i : ℕ) → place_of azimuth sectors ≡ Ok i → segment_of azimuth sectors ≡ Ok (at i))
      → (p : Result ℕ Refusal) → (outside_solar_beam surface.tilt surface.orientation altitude azimuth ≡ false → p ≡ place_of azimuth sectors)
      → factor_at edition surface altitude azimuth (of_found at p) window ≡ shading_factor edition surface altitude azimuth sectors window
  unfolding segment_of segment_in
  factor_by_place sectors at there (Ok i) e = factor_by_sector sectors (Ok (at i)) (λ h. there i (sym (e h)))
  factor_by_place sectors at there (Err r) e = factor_by_sector sectors (Err r) (λ h. ap (segment_in sectors) (sym (e h)))

  -- in a table, of which the first n places are sectors
  pub factor_by_table : (places : List ShadingSegment) (n : ℕ) (d : ShadingSegment) (p : Result ℕ Refusal)
      → (outside_solar_beam surface.tilt surface.orientation altitude azimuth ≡ false → p ≡ place_of azimuth (take n places))
      → factor_at edition surface altitude azimuth (of_found (λ (i : ℕ). get_or places i d) p) window ≡ shading_factor edition surface altitude azimuth (take n places) window
  factor_by_table places n d = factor_by_place (take n places) (λ (i : ℕ). get_or places i d) (λ i e. record_taken azimuth n i places e d)

  -- by what a single call finds
  pub factor_by_found : (sectors : List ShadingSegment) (r : Result FoundSegment Refusal) → r ≡ segment_found azimuth sectors
      → factor_at edition surface altitude azimuth (of_found (λ (f : FoundSegment). f.segment) r) window ≡ shading_factor edition surface altitude azimuth sectors window
  factor_by_found sectors r e = factor_by_sector sectors _ (λ h. sector_found azimuth sectors r e)

  -- ---- inside the beam it is the factor in the sector

  module _ (inside : outside_solar_beam surface.tilt surface.orientation altitude azimuth ≡ false) where
    in_sector : (r : Result ShadingSegment Refusal) → factor_in surface (sun_on edition surface altitude azimuth) window r ≡ factor_at edition surface altitude azimuth r window
    unfolding factor_at
    in_sector r = rw inside refl

    pub inside_by_sector : (sectors : List ShadingSegment) (r : Result ShadingSegment Refusal) → segment_of azimuth sectors ≡ r
        → factor_in surface (sun_on edition surface altitude azimuth) window r ≡ shading_factor edition surface altitude azimuth sectors window
    inside_by_sector sectors r e = in_sector r ∙ factor_by_sector sectors r (λ h. e)

    pub inside_by_place : (sectors : List ShadingSegment) (at : ℕ → ShadingSegment) → ((i : ℕ) → place_of azimuth sectors ≡ Ok i → segment_of azimuth sectors ≡ Ok (at i))
        → (p : Result ℕ Refusal) → p ≡ place_of azimuth sectors
        → factor_in surface (sun_on edition surface altitude azimuth) window (of_found at p) ≡ shading_factor edition surface altitude azimuth sectors window
    inside_by_place sectors at there p e = in_sector _ ∙ factor_by_place sectors at there p (λ h. e)

    pub inside_by_found : (sectors : List ShadingSegment) (r : Result FoundSegment Refusal) → r ≡ segment_found azimuth sectors
        → factor_in surface (sun_on edition surface altitude azimuth) window (of_found (λ (f : FoundSegment). f.segment) r) ≡ shading_factor edition surface altitude azimuth sectors window
    inside_by_found sectors r e = in_sector _ ∙ factor_by_found sectors r e
