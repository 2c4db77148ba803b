-- What is promised of the factor of glazing in strips, beside its definition: how it comes from factor calls, and the laws of the
-- factor, which it keeps. Proofs are in proofs/StripLaws.
use Rattle.std.specs.Prelude.{◌≡◌, ◌&&◌, ℕ, T, Float, Err, Ok}
use mathlib.Core.List.{List, [], Memᴰ}
use Rattle.doubles.specs.Arithmetic.{whole}
use Rattle.doubles.specs.Order.{◌≼◌, Fits}
use Rattle.words.specs.Lists.{PlaceByPlace}
use Rattle.objects.specs.declared.surface.Surface.{Surface}
use Rattle.objects.specs.declared.sectors.ShadingSegment.{ShadingSegment}
use Rattle.objects.specs.declared.answers.Refusal.{Refusal}
use Rattle.objects.specs.Objects.{counted}
use Rattle.objects.specs.Records.{sectors_of, window_objects_of}
use Rattle.object_checks.specs.Checks.{sectors_fine, window_fine}
use Rattle.shading.specs.Call.{factor_call}
use Rattle.shading_laws.specs.Premises.{NoNanAt, Holds, MoreInSector, SameInSector}
use Rattle.shading_laws.specs.Sizes.{nothing, WindowShadesNoLess, SectorShadesNoLess, NoLargerAnswer}
use Rattle.strips.specs.declared.glazing.TallGlazing.{TallGlazing}
use Rattle.strips.specs.Strips.{strips_of, strips_fine, mean_factor, strips_call}

-- ---- strips and factor calls

-- Each strip's factor is that of the factor call for its surface: with all strips in their ranges the answer is the mean of those calls,
-- and refused as they are.
abbrev pub ByFactorCalls : Type 0
ByFactorCalls =
    (edition : ℕ) (altitude azimuth : Float) (glazing : TallGlazing) (heights sectors window : List ℕ) → T (strips_fine glazing heights)
    → strips_call edition altitude azimuth glazing heights sectors window
    ≡ mean_factor (λ strip. factor_call edition altitude azimuth strip sectors window) (strips_of glazing heights)

-- where one strip is refused, all are, by the same number
abbrev pub RefusedAlike : Type 0
RefusedAlike =
    (edition : ℕ) (altitude azimuth : Float) (glazing : TallGlazing) (heights sectors window : List ℕ) → T (strips_fine glazing heights)
    → (s t : Surface) → Memᴰ s (strips_of glazing heights) → Memᴰ t (strips_of glazing heights)
    → (r : Refusal) → factor_call edition altitude azimuth s sectors window ≡ Err r → factor_call edition altitude azimuth t sectors window ≡ Err r

-- ---- two calls compared, alike in all but their lists of objects

-- no shade extent of any strip is NaN
abbrev pub NoNanInStrips : ℕ → Float → Float → List Surface → List ℕ → List ℕ → Type 0
NoNanInStrips edition altitude azimuth strips sectors window =
    (s : Surface) → Memᴰ s strips → NoNanAt edition s altitude azimuth (sectors_of sectors) (window_objects_of window)

-- no object in any sector, and none at the window
pub record NoObjects (sectors window : List ℕ) : Type 0 where
  pub in_sectors : (s : ShadingSegment) → Memᴰ s (sectors_of sectors) → counted s ≡ []
  pub at_window : window_objects_of window ≡ []

-- of each: the factor lies from 0 to 1, and is exactly 1 with no objects
pub record Lawful (sectors window : List ℕ) (x : Float) : Type 0 where
  pub from : whole 0 ≼ x
  pub to : x ≼ whole 1
  pub one : NoObjects sectors window → x ≡ whole 1

-- Of both: the same objects, in any order and number, give the same double; more objects never a larger one. Sectors are compared at the
-- same place, and start and end alike.
pub record Compared (l m w v : List ℕ) (x y : Float) : Type 0 where
  pub first : Lawful l w x
  pub second : Lawful m v y
  pub same_objects : PlaceByPlace SameInSector (sectors_of l) (sectors_of m) → Holds (window_objects_of v) (window_objects_of w) → Holds (window_objects_of w) (window_objects_of v) → x ≡ y
  pub more_objects : PlaceByPlace MoreInSector (sectors_of l) (sectors_of m) → Holds (window_objects_of v) (window_objects_of w) → y ≼ x

-- Both calls accepted, and no shade extent NaN in either. That the width is a double is ensured by `pilgartze_strips`.
abbrev pub StripsCompared : Type 0
StripsCompared =
    (edition : ℕ) (altitude azimuth : Float) (glazing : TallGlazing) (heights l m w v : List ℕ) (x y : Float)
    → Fits glazing.width
    → strips_call edition altitude azimuth glazing heights l w ≡ Ok x → strips_call edition altitude azimuth glazing heights m v ≡ Ok y
    → NoNanInStrips edition altitude azimuth (strips_of glazing heights) l w → NoNanInStrips edition altitude azimuth (strips_of glazing heights) m v
    → Compared l m w v x y

-- The laws of sizes, as of two factor calls: objects that shade no less never give a larger factor. Both calls have one, or both are
-- refused by the same number.
abbrev pub SizesInStrips : Type 0
SizesInStrips =
    (edition : ℕ) (altitude azimuth : Float) (glazing : TallGlazing) (heights l m w v : List ℕ)
    → Fits glazing.width
    → sectors_fine l && window_fine w ≡ sectors_fine m && window_fine v
    → NoNanInStrips edition altitude azimuth (strips_of glazing heights) l w → NoNanInStrips edition altitude azimuth (strips_of glazing heights) m v
    → PlaceByPlace (SectorShadesNoLess nothing) (sectors_of l) (sectors_of m) → PlaceByPlace (WindowShadesNoLess nothing) (window_objects_of w) (window_objects_of v)
    → NoLargerAnswer (strips_call edition altitude azimuth glazing heights l w) (strips_call edition altitude azimuth glazing heights m v)
