-- One object changed in one measure so that it shades no less, and what that does to the factor, at one step and in a factor call: never
-- raise it. The other way round, an object that shades no more never lowers it.
use Rattle.std.specs.Prelude.{◌≡◌, ◌⊎◌, Bool, ◌&&◌, List, ℕ, T, Float, Err, Ok, Result, Option, Some, None}
use Rattle.objects.specs.declared.answers.Refusal.{Refusal}
use Rattle.doubles.specs.Arithmetic.{◌⊕◌, ◌⊖◌, ◌⊗◌, whole}
use Rattle.doubles.specs.Order.{◌≼◌, ◌≺◌, Number, Zero}
use Rattle.words.specs.Lists.{PlaceByPlace}
use Rattle.objects.specs.declared.surface.Surface.{Surface}
use Rattle.objects.specs.declared.sectors.ShadingObject.{ShadingObject}
use Rattle.objects.specs.declared.sectors.ShadingSegment.{ShadingSegment}
use Rattle.objects.specs.declared.window.WindowShadingObject.{WindowShadingObject}
use Rattle.objects.specs.declared.window.WindowShadingType.TheVariants.{Obstacle, Overhang, SideFinRight, SideFinLeft}
use Rattle.objects.specs.Objects.{is_obstacle, is_overhang, of_kind, counted}
use Rattle.objects.specs.Records.{sectors_of, window_objects_of}
use Rattle.object_checks.specs.Checks.{sectors_fine, window_fine}
use Rattle.segments.specs.SameSectors.{SameBounds}
use Rattle.shading.specs.declared.sun_on_surface.SunOnSurface.{SunOnSurface}
use Rattle.shading.specs.Factor.{sun_on, shading_factor}
use Rattle.shading.specs.Call.{factor_call}
use Rattle.shading_laws.specs.Premises.{AcceptedSurface, AcceptedNear, Doubles, NoNanAt}

-- ---- what some of the changes ask

pub record Asked : Type 1 where
  -- the tangent of the sun's altitude is not below 0
  pub sun_up : Type 0
  -- the height that a distant overhang shades is a number before it is cut off at 0
  pub reach : ShadingObject → Type 0
  -- an overhang at the window, or a fin of either side, shades no less where it is deeper
  pub overhang_deepens : WindowShadingObject → Type 0
  pub right_deepens : WindowShadingObject → Type 0
  pub left_deepens : WindowShadingObject → Type 0

-- depth and distance are not below 0
pub record NotNegative (o : WindowShadingObject) : Type 0 where
  pub size_from : whole 0 ≼ o.size
  pub distance_from : whole 0 ≼ o.distance

unfoldable pub TangentUp : Option Float → Type 0
TangentUp (Some t) = whole 0 ≼ t
TangentUp None = Unit {0}

-- at one step, of objects with any doubles: the cosine is of the azimuth less the surface's orientation, not wrapped
abbrev pub asked_at : Surface → SunOnSurface → Asked
asked_at surface sun = record {
  sun_up = whole 0 ≼ sun.tan_altitude;
  reach = λ o. Number (surface.height ⊕ surface.base_height ⊖ o.height ⊕ o.distance ⊗ sun.tan_altitude);
  overhang_deepens = λ o. (whole 0 ≺ sun.cos_difference) ⊎ NotNegative o;
  right_deepens = λ o. TangentUp sun.fins.right ⊎ NotNegative o;
  left_deepens = λ o. TangentUp sun.fins.left ⊎ NotNegative o;
}

-- of an accepted sun and accepted objects nothing need be asked: all of the above is so
abbrev pub nothing : Asked
nothing = record { sun_up = Unit {0}; reach = λ o. Unit {0}; overhang_deepens = λ o. Unit {0}; right_deepens = λ o. Unit {0}; left_deepens = λ o. Unit {0} }

-- ---- an object that shades no less: the same one, or one changed in one measure

pub record Both {Object : Type 0} (kind : Object → Bool) (o p : Object) : Type 0 where
  pub first : T (kind o)
  pub second : T (kind p)

-- p for o among the distant objects
pub data ShadesNoLess (asked : Asked) (o p : ShadingObject) : Type 0 where
  same : o ≡ p → ShadesNoLess asked o p
  taller_obstacle : Both is_obstacle o p → o.distance ≡ p.distance → o.height ≼ p.height → ShadesNoLess asked o p
  nearer_obstacle : asked.sun_up → Both is_obstacle o p → o.height ≡ p.height → p.distance ≼ o.distance → ShadesNoLess asked o p
  lower_overhang : asked.reach p → Both is_overhang o p → o.distance ≡ p.distance → p.height ≼ o.height → ShadesNoLess asked o p
  farther_overhang : asked.reach p → asked.sun_up → Both is_overhang o p → o.height ≡ p.height → o.distance ≼ p.distance → ShadesNoLess asked o p

-- an overhang at the window or a fin: deeper, where what that asks is so, or nearer
pub data ReachesNoLess (deepens : Type 0) (o p : WindowShadingObject) : Type 0 where
  deeper : deepens → o.distance ≡ p.distance → o.size ≼ p.size → ReachesNoLess deepens o p
  nearer : o.size ≡ p.size → p.distance ≼ o.distance → ReachesNoLess deepens o p

-- a near obstacle: where it lets nothing through taller or, with the sun up, nearer; or darker
pub data DarkensNoLess (sun_up : Type 0) (o p : WindowShadingObject) : Type 0 where
  taller : Zero o.transparency → o.transparency ≡ p.transparency → o.distance ≡ p.distance → o.size ≼ p.size → DarkensNoLess sun_up o p
  closer : sun_up → Zero o.transparency → o.transparency ≡ p.transparency → o.size ≡ p.size → p.distance ≼ o.distance → DarkensNoLess sun_up o p
  darker : o.size ≡ p.size → o.distance ≡ p.distance → p.transparency ≼ o.transparency → DarkensNoLess sun_up o p

-- p for o among those at the window; near obstacles are among them
pub data WindowShadesNoLess (asked : Asked) (o p : WindowShadingObject) : Type 0 where
  unchanged : o ≡ p → WindowShadesNoLess asked o p
  overhang : Both (of_kind Overhang) o p → ReachesNoLess (asked.sun_up × asked.overhang_deepens o) o p → WindowShadesNoLess asked o p
  right_fin : Both (of_kind SideFinRight) o p → ReachesNoLess (asked.right_deepens o) o p → WindowShadesNoLess asked o p
  left_fin : Both (of_kind SideFinLeft) o p → ReachesNoLess (asked.left_deepens o) o p → WindowShadesNoLess asked o p
  a_near_obstacle : Both (of_kind Obstacle) o p → DarkensNoLess asked.sun_up o p → WindowShadesNoLess asked o p

-- two sectors bounded alike, each object of the second shading no less than the first one's at its place
pub record SectorShadesNoLess (asked : Asked) (s t : ShadingSegment) : Type 0 where
  pub bounds : SameBounds s t
  pub objects : PlaceByPlace (ShadesNoLess asked) (counted s) (counted t)

-- ---- the laws

-- the second answer is no larger: both are factors, and it is at most the first, or both are the same refusal
unfoldable pub NoLargerAnswer : Result Float Refusal → Result Float Refusal → Type 0
NoLargerAnswer (Ok x) (Ok y) = y ≼ x
NoLargerAnswer (Err r) (Err q) = r ≡ q
NoLargerAnswer (Ok x) (Err r) = ⊥
NoLargerAnswer (Err r) (Ok x) = ⊥

-- at one step: any number of objects changed, each at its place and so that it shades no less
abbrev pub SizesAtOneStep : Type 0
SizesAtOneStep =
    (edition : ℕ) (surface : Surface) (altitude azimuth : Float) (ss ts : List ShadingSegment) (ws vs : List WindowShadingObject)
    → AcceptedSurface surface → AcceptedNear ws → AcceptedNear vs
    → NoNanAt edition surface altitude azimuth ss ws → NoNanAt edition surface altitude azimuth ts vs
    → let asked = asked_at surface (sun_on edition surface altitude azimuth) in
    PlaceByPlace (SectorShadesNoLess asked) ss ts → PlaceByPlace (WindowShadesNoLess asked) ws vs
    → NoLargerAnswer (shading_factor edition surface altitude azimuth ss ws) (shading_factor edition surface altitude azimuth ts vs)

-- in two factor calls alike but for their objects, where check 4 says the same of both: nothing is asked of the sun
abbrev pub SizesInCalls : Type 0
SizesInCalls =
    (edition : ℕ) (altitude azimuth : Float) (surface : Surface) (l m w v : List ℕ)
    → Doubles surface
    → sectors_fine l && window_fine w ≡ sectors_fine m && window_fine v
    → NoNanAt edition surface altitude azimuth (sectors_of l) (window_objects_of w) → NoNanAt edition surface altitude azimuth (sectors_of m) (window_objects_of v)
    → PlaceByPlace (SectorShadesNoLess nothing) (sectors_of l) (sectors_of m) → PlaceByPlace (WindowShadesNoLess nothing) (window_objects_of w) (window_objects_of v)
    → NoLargerAnswer (factor_call edition altitude azimuth surface l w) (factor_call edition altitude azimuth surface m v)
