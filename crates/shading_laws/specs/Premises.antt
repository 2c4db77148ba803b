-- What the laws of the factor assume, at one step's sun. A surface and near obstacles are so where a job is accepted; that no
-- extent is NaN, that a list holds all objects of another and that sectors are bounded alike is asked of two jobs compared.
use Rattle.std.specs.Prelude.{◌≡◌, false, ℕ, T, Float, Ok}
use mathlib.Core.List.{List, Memᴰ}
use Rattle.doubles.specs.Arithmetic.{whole, decimal}
use Rattle.doubles.specs.Order.{◌≼◌, Number, Fits}
use Rattle.objects.specs.declared.surface.Surface.{Surface}
use Rattle.objects.specs.declared.sectors.ShadingObject.{ShadingObject}
use Rattle.objects.specs.declared.sectors.ShadingSegment.{ShadingSegment}
use Rattle.objects.specs.declared.window.WindowShadingObject.{WindowShadingObject}
use Rattle.beam.specs.Beam.{outside_solar_beam}
use Rattle.segments.specs.Segments.{segment_of}
use Rattle.segments.specs.SameSectors.{SameBounds}
use Rattle.objects.specs.declared.window.WindowShadingType.TheVariants.{Obstacle}
use Rattle.objects.specs.Objects.{counted, of_kind}
use Rattle.shading.specs.declared.sun_on_surface.SunOnSurface.{SunOnSurface}
use Rattle.shading.specs.Factor.{sun_on, near_obstacle_height, obstacle_extents, overhang_extents, window_overhang_extents, right_fin_extents, left_fin_extents}

-- an accepted surface: height and width from 0.001 to 1000, each a double
pub record AcceptedSurface (surface : Surface) : Type 0 where
  pub height_from : decimal 1 3 ≼ surface.height
  pub height_to : surface.height ≼ whole 1000
  pub width_from : decimal 1 3 ≼ surface.width
  pub width_to : surface.width ≼ whole 1000
  pub height_fits : Fits surface.height
  pub width_fits : Fits surface.width

-- Height and width are doubles. `pilgartze_run` and `pilgartze_factor` ensure this of every surface that they are passed, so that nobody
-- has to see to it; it is asked because the type `Float` has other values too, which no double is.
pub record Doubles (surface : Surface) : Type 0 where
  pub height_fits : Fits surface.height
  pub width_fits : Fits surface.width

-- every member of a list of extents is a number
abbrev pub AllNumbers : List Float → Type 0
AllNumbers xs = (x : Float) → Memᴰ x xs → Number x

-- no shade extent is NaN
pub record NoNanExtent (surface : Surface) (sun : SunOnSurface) (distants : List ShadingObject) (window : List WindowShadingObject) : Type 0 where
  pub obstacles : AllNumbers (obstacle_extents surface sun distants)
  pub overhangs : AllNumbers (overhang_extents surface sun distants)
  pub window_overhangs : AllNumbers (window_overhang_extents sun window)
  pub right_fins : AllNumbers (right_fin_extents sun window)
  pub left_fins : AllNumbers (left_fin_extents sun window)
  pub near_obstacles : (o : WindowShadingObject) → Memᴰ o window → T (of_kind Obstacle o) → Number (near_obstacle_height surface sun o)

-- no shade extent at a step is NaN: those are computed inside the beam, of the sector that is found
pub record NoNanAt (edition : ℕ) (surface : Surface) (altitude azimuth : Float) (sectors : List ShadingSegment) (window : List WindowShadingObject) : Type 0 where
  pub at_found : outside_solar_beam surface.tilt surface.orientation altitude azimuth ≡ false
      → (s : ShadingSegment) → segment_of azimuth sectors ≡ Ok s
      → NoNanExtent surface (sun_on edition surface altitude azimuth) (counted s) window

-- every near obstacle's transparency is from 0 to 1; −0.0 is in
pub record AcceptedNear (window : List WindowShadingObject) : Type 0 where
  pub transparency_from : (o : WindowShadingObject) → Memᴰ o window → T (of_kind Obstacle o) → whole 0 ≼ o.transparency
  pub transparency_to : (o : WindowShadingObject) → Memᴰ o window → T (of_kind Obstacle o) → o.transparency ≼ whole 1

-- ys holds all objects of xs
abbrev pub Holds : {Object : Type 0} → List Object → List Object → Type 0
Holds {Object} ys xs = (o : Object) → Memᴰ o xs → Memᴰ o ys

-- two sectors bounded alike, the second holding all objects of the first
pub record MoreInSector (s t : ShadingSegment) : Type 0 where
  pub bounds : SameBounds s t
  pub holds : Holds (counted t) (counted s)

-- two sectors bounded alike that hold the same objects
pub record SameInSector (s t : ShadingSegment) : Type 0 where
  pub bounds : SameBounds s t
  pub holds : Holds (counted t) (counted s)
  pub held : Holds (counted s) (counted t)
