-- What the laws assume, of a surface, a sun and lists that a call accepts. Assumes nothing.
use mathlib.Core.Logic.{inr}
use mathlib.Core.List.{List}
use Prim.Native.Nat.{ℕ, ◌*◌, ◌^◌}
use lib.Dec.{T}
use lib.Ieee.{Float, neg, add, sub, mul, le}
use Rattle.doubles.specs.Arithmetic.{◌⊕◌, ◌⊖◌, ◌⊗◌, whole, decimal}
use Rattle.doubles.specs.Order.{InRange, Number}
use Rattle.doubles.proofs.Order.{lt→le}
use Rattle.doubles.proofs.Intervals.{in_number, add_in, sub_in, mul_in}
use Rattle.angles.proofs.FirstQuarter.{most_tangent, tangent_up}
use Rattle.words.specs.Lists.{PlaceByPlace}
use Rattle.objects.specs.declared.surface.Surface.{Surface}
use Rattle.objects.specs.declared.sectors.ShadingObject.{ShadingObject}
use Rattle.objects.specs.declared.sectors.ShadingSegment.{ShadingSegment}
use Rattle.objects.specs.declared.window.WindowShadingObject.{WindowShadingObject}
use Rattle.objects.specs.Records.{sectors_of, window_objects_of}
use Rattle.objects.specs.Surface.{surface_fine}
use Rattle.object_checks.specs.Checks.{sectors_fine, window_fine}
use Rattle.object_checks.proofs.Accepted.{base_height_range, height_range, width_range}
use Rattle.object_checks.proofs.AcceptedSectors.{DistantInRange, sectors_in_range}
use Rattle.object_checks.proofs.AcceptedWindow.{WindowInRange, window_in_range}
use Rattle.shading.specs.declared.sun_on_surface.SunOnSurface.{SunOnSurface}
use Rattle.shading.specs.Factor.{sun_on}
use Rattle.shading_laws.specs.Premises.{AcceptedSurface, Doubles, AcceptedNear}
use Rattle.shading_laws.specs.Sizes.{asked_at, nothing, NotNegative, ShadesNoLess, same, taller_obstacle, nearer_obstacle, lower_overhang, farther_overhang, ReachesNoLess, deeper, nearer, DarkensNoLess, taller, closer, darker, WindowShadesNoLess, unchanged, overhang, right_fin, left_fin, a_near_obstacle, SectorShadesNoLess}
use Rattle.shading_laws.proofs.Members.{map_places}

-- ---- surfaces and near obstacles

pub accepted_surface : (s : Surface) → T (surface_fine s) → Doubles s → AcceptedSurface s
accepted_surface s t d = record {
  height_from = (height_range s t).from;
  height_to = (height_range s t).to;
  width_from = (width_range s t).from;
  width_to = (width_range s t).to;
  height_fits = d.height_fits;
  width_fits = d.width_fits;
}

-- every near obstacle's transparency is from 0 to 1
pub accepted_near : (l : List ℕ) → T (window_fine l) → AcceptedNear (window_objects_of l)
accepted_near l t = record {
  transparency_from = λ o m k. ((window_in_range l t o m).transparency_range k).from;
  transparency_to = λ o m k. ((window_in_range l t o m).transparency_range k).to;
}

-- ---- what the laws of sizes ask is so

not_negative : {o : WindowShadingObject} → WindowInRange o → NotNegative o
not_negative r = record { size_from = lt→le r.size_range.0; distance_from = r.distance_range.from }

module _ (edition : ℕ) (surface : Surface) (t : T (surface_fine surface)) (altitude azimuth : Float) (r : InRange (whole 0) (whole 90) altitude) where
  abbrev sun : SunOnSurface
  sun = sun_on edition surface altitude azimuth

  -- the sun's tangent
  up : InRange (whole 0) most_tangent sun.tan_altitude
  unfolding sun_on
  up = tangent_up r

  reach_number : {height base lowest distance tan : Float} → InRange (decimal 1 3) (whole 1000) height → InRange (whole 0) (whole 1000) base
      → InRange (whole 0) (whole 1000) lowest → InRange (whole 0) (whole 10000) distance → InRange (whole 0) most_tangent tan → Number (height ⊕ base ⊖ lowest ⊕ distance ⊗ tan)
  unfolding whole decimal neg add sub mul le
  reach_number {height} {base} {lowest} {distance} {tan} h b l d u =
      let top : InRange (whole 0) (whole 2000) (height ⊕ base) = add_in h b tt in
      let rest : InRange (neg (whole 1000)) (whole 2000) (height ⊕ base ⊖ lowest) = sub_in top l tt in
      let far : InRange (whole 0) (whole (6 * 10 ^ 20)) (distance ⊗ tan) = mul_in d u tt tt in
      let all : InRange (neg (whole 1000)) (whole (7 * 10 ^ 20)) (height ⊕ base ⊖ lowest ⊕ distance ⊗ tan) = add_in rest far tt in
      in_number all

  reach : {o : ShadingObject} → DistantInRange o → (asked_at surface sun).reach o
  reach d =
      reach_number (height_range surface t) (base_height_range surface t) (record { from = lt→le d.height_range.0; to = d.height_range.1 })
      (record { from = lt→le d.distance_range.0; to = d.distance_range.1 }) up

  distant_asked : (o p : ShadingObject) → DistantInRange p → ShadesNoLess nothing o p → ShadesNoLess (asked_at surface sun) o p
  distant_asked o p d (same e) = same e
  distant_asked o p d (taller_obstacle k e h) = taller_obstacle k e h
  distant_asked o p d (nearer_obstacle _ k e h) = nearer_obstacle up.from k e h
  distant_asked o p d (lower_overhang _ k e h) = lower_overhang (reach d) k e h
  distant_asked o p d (farther_overhang _ _ k e h) = farther_overhang (reach d) up.from k e h

  reaches_asked : {a b : Type 0} {o p : WindowShadingObject} → b → ReachesNoLess a o p → ReachesNoLess b o p
  reaches_asked b (deeper _ e h) = deeper b e h
  reaches_asked b (nearer e h) = nearer e h

  darkens_asked : {a b : Type 0} {o p : WindowShadingObject} → b → DarkensNoLess a o p → DarkensNoLess b o p
  darkens_asked b (taller z e f h) = taller z e f h
  darkens_asked b (closer _ z e f h) = closer b z e f h
  darkens_asked b (darker e f h) = darker e f h

  at_window_asked : (o p : WindowShadingObject) → NotNegative o → WindowShadesNoLess nothing o p → WindowShadesNoLess (asked_at surface sun) o p
  at_window_asked o p d (unchanged e) = unchanged e
  at_window_asked o p d (overhang k r) = overhang k (reaches_asked (up.from, inr d) r)
  at_window_asked o p d (right_fin k r) = right_fin k (reaches_asked (inr d) r)
  at_window_asked o p d (left_fin k r) = left_fin k (reaches_asked (inr d) r)
  at_window_asked o p d (a_near_obstacle k r) = a_near_obstacle k (darkens_asked up.from r)

  pub sectors_asked : {ss : List ShadingSegment} (m : List ℕ) → T (sectors_fine m) → PlaceByPlace (SectorShadesNoLess nothing) ss (sectors_of m)
      → PlaceByPlace (SectorShadesNoLess (asked_at surface sun)) ss (sectors_of m)
  sectors_asked m f =
      map_places (λ s q i j r. record {
        bounds = r.bounds;
        objects = map_places (λ o p k l. distant_asked o p (sectors_in_range m f q j p l)) r.objects;
      })

  pub window_asked : (w : List ℕ) {vs : List WindowShadingObject} → T (window_fine w) → PlaceByPlace (WindowShadesNoLess nothing) (window_objects_of w) vs
      → PlaceByPlace (WindowShadesNoLess (asked_at surface sun)) (window_objects_of w) vs
  window_asked w f = map_places (λ o p i j. at_window_asked o p (not_negative (window_in_range w f o i)))
