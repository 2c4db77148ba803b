-- One walk for all strips: beam, sun, sector and reveal do not depend on a strip's base or height. Assumes nothing.
use Rattle.std.specs.Prelude.{Err, Float, Ok, Result}
use mathlib.Core.Path.{◌≡◌, refl, sym, ap, ◌∙◌}
use mathlib.Core.Bool.{true, false}
use mathlib.Core.List.{List}
use Prim.Native.Nat.{ℕ}
use lib.Dec.{T}
use lib.Ieee.{Float}
use Rattle.doubles.specs.Arithmetic.{whole}
use Rattle.words.specs.Words.{double_at}
use Rattle.objects.specs.declared.surface.Surface.{Surface}
use Rattle.objects.specs.declared.sectors.ShadingSegment.{ShadingSegment}
use Rattle.objects.specs.declared.window.WindowShadingObject.{WindowShadingObject}
use Rattle.objects.specs.declared.answers.Refusal.{Refusal}
use Rattle.beam.specs.Beam.{outside_solar_beam}
use Rattle.segments.specs.Segments.{segment_of}
use Rattle.shading.specs.declared.sun_on_surface.SunOnSurface.{SunOnSurface}
use Rattle.shading.specs.Factor.{sun_on, factor_in, shading_factor}
use Rattle.shading.proofs.SunPlaces.{inside_by_sector}
use Rattle.strips.specs.declared.glazing.TallGlazing.{TallGlazing}
use Rattle.strips.specs.Strips.{strip_of, heights_of, strips_of, strips_fine, mean_factor, strips_factor}
use Rattle.strips.proofs.Means.{no_sums, mean_one, mean_refused, mean_same}
use Rattle.strips.proofs.StripLists.{strip_has, lowest_first, not_none, strips_stacked, lowest_base}

module _ (glazing : TallGlazing) (heights : List ℕ) (t : T (strips_fine glazing heights)) where
  -- refused where the lowest strip is
  pub lowest_refused : (f : Surface → Result Float Refusal) (r : Refusal) → f (strip_of glazing glazing.base_height (double_at heights 0)) ≡ Err r
      → Err r ≡ mean_factor f (strips_of glazing heights)
  unfolding mean_factor
  lowest_refused f r e = sym (ap (mean_factor f) (lowest_first glazing heights t) ∙ mean_refused f r _ _ (whole 0) (whole 0) e)

  module _ (edition : ℕ) (altitude azimuth : Float) (sectors : List ShadingSegment) (window : List WindowShadingObject) where
    -- outside the beam exactly 1
    pub outside_one : outside_solar_beam glazing.tilt glazing.orientation altitude azimuth ≡ true
        → strips_factor edition altitude azimuth (strips_of glazing heights) sectors window ≡ Ok (whole 1)
    unfolding strips_factor mean_factor shading_factor strip_of strips_of
    outside_one e =
        mean_one (λ strip. shading_factor edition strip altitude azimuth sectors window) (strips_of glazing heights) (strips_stacked glazing heights t) (no_sums (lowest_base glazing heights t))
        (not_none glazing heights t)
        (strip_has glazing (λ s. shading_factor edition s altitude azimuth sectors window ≡ Ok (whole 1)) (λ base height. rw e refl) (heights_of heights) glazing.base_height)

    module _ (inside : outside_solar_beam glazing.tilt glazing.orientation altitude azimuth ≡ false) where
      -- at a strip, by the sector that has the sun, or why there is none
      strip_there : (r : Result ShadingSegment Refusal) → segment_of azimuth sectors ≡ r → (base height : Float)
          → factor_in (strip_of glazing base height) (sun_on edition (strip_of glazing base height) altitude azimuth) window r
          ≡ shading_factor edition (strip_of glazing base height) altitude azimuth sectors window
      unfolding strip_of
      strip_there r e base height = inside_by_sector edition (strip_of glazing base height) altitude azimuth window inside sectors r e

      -- a walk that comes to no sector turns every strip down alike
      pub walk_refused : (r : Refusal) → segment_of azimuth sectors ≡ Err r → Err r ≡ strips_factor edition altitude azimuth (strips_of glazing heights) sectors window
      unfolding strips_factor factor_in
      walk_refused r e = lowest_refused (λ strip. shading_factor edition strip altitude azimuth sectors window) r (sym (strip_there (Err r) e _ _))

      -- the sun is the same to every strip
      pub found_mean : (s : ShadingSegment) → segment_of azimuth sectors ≡ Ok s → (sun : SunOnSurface) (base height : Float) → sun ≡ sun_on edition (strip_of glazing base height) altitude azimuth
          → mean_factor (λ strip. factor_in strip sun window (Ok s)) (strips_of glazing heights) ≡ strips_factor edition altitude azimuth (strips_of glazing heights) sectors window
      unfolding strips_factor mean_factor sun_on strip_of strips_of
      found_mean s e sun base height k =
          mean_same (λ strip. factor_in strip sun window (Ok s)) (λ strip. shading_factor edition strip altitude azimuth sectors window) (strips_of glazing heights) (whole 0) (whole 0)
          (strip_has glazing (λ strip. factor_in strip sun window (Ok s) ≡ shading_factor edition strip altitude azimuth sectors window)
          (λ b h. rw k (strip_there (Ok s) e b h)) (heights_of heights) glazing.base_height)
