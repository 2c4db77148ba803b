-- Tall glazing cut into strips: the strips, their check, and the factor of the whole.
use Rattle.std.specs.Prelude.{Bool, true, cond, ◌&&◌, List, [], ◌∷◌, ℕ, ◌%◌, eqb, leb, length, Float, Err, Ok, Result}
use Rattle.objects.specs.declared.answers.Refusal.{Refusal}
use Rattle.doubles.specs.Arithmetic.{◌⊕◌, ◌⊗◌, ◌⊘◌, whole}
use Rattle.words.specs.Words.{word_count, double_at}
use Rattle.objects.specs.declared.surface.Surface.{Surface}
use Rattle.objects.specs.declared.sectors.ShadingSegment.{ShadingSegment}
use Rattle.objects.specs.declared.window.WindowShadingObject.{WindowShadingObject}
use Rattle.objects.specs.declared.answers.Refusal.TheVariants as refusal
use Rattle.objects.specs.Records.{records_from, sectors_of, window_objects_of}
use Rattle.objects.specs.Surface.{surface_fine}
use Rattle.object_checks.specs.Checks.{sectors_fine, window_fine}
use Rattle.fins.specs.Fins.{edition_fine}
use Rattle.shading.specs.Factor.{shading_factor}
use Rattle.shading.specs.Call.{sun_fine}
use Rattle.strips.specs.declared.glazing.TallGlazing.{TallGlazing}

-- ---- the strips

-- the surface of the glazing's tilt, orientation and width, with a base and a height of its own
unfoldable pub strip_of : TallGlazing → Float → Float → Surface
strip_of glazing base height =
    record { tilt = glazing.tilt; orientation = glazing.orientation; base_height = base; height = height; width = glazing.width }

-- bottom first: each later base is the rounded sum of base and height below
unfoldable pub strips_from : TallGlazing → Float → List Float → List Surface
strips_from glazing base [] = []
strips_from glazing base (height ∷ above) = strip_of glazing base height ∷ strips_from glazing (base ⊕ height) above

-- the doubles of a list of bytes, in order
unfoldable pub heights_of : List ℕ → List Float
heights_of l = records_from (double_at l) 0 (word_count l)

-- the first base is the glazing's
unfoldable pub strips_of : TallGlazing → List ℕ → List Surface
strips_of glazing heights = strips_from glazing glazing.base_height (heights_of heights)

-- ---- when they are turned down (refusal 3)

-- 1 to 12 strips, and no part of one
unfoldable pub count_fine : List ℕ → Bool
count_fine heights = eqb (length heights % 8) 0 && leb 1 (word_count heights) && leb (word_count heights) 12

unfoldable pub all_fine : List Surface → Bool
all_fine [] = true
all_fine (strip ∷ above) = surface_fine strip && all_fine above

unfoldable pub strips_fine : TallGlazing → List ℕ → Bool
strips_fine glazing heights = count_fine heights && all_fine (strips_of glazing heights)

-- ---- the factor of the whole

-- what follows from a strip's factor; a strip that is refused ends it (`refused_alike`: the others are refused likewise)
unfoldable pub on_factor : Result Float Refusal → (Float → Result Float Refusal) → Result Float Refusal
on_factor (Ok x) next = next x
on_factor (Err r) next = Err r

-- (Σ factor ⊗ height) ⊘ (Σ height), from the bottom up, of the sums over the strips below and of those that follow
unfoldable pub mean_from : (Surface → Result Float Refusal) → Float → Float → List Surface → Result Float Refusal
mean_from factor_of weighted heights [] = Ok (weighted ⊘ heights)
mean_from factor_of weighted heights (strip ∷ above) =
    on_factor (factor_of strip) (λ factor. mean_from factor_of (weighted ⊕ factor ⊗ strip.height) (heights ⊕ strip.height) above)

-- both sums from 0
unfoldable pub mean_factor : (Surface → Result Float Refusal) → List Surface → Result Float Refusal
unfolding whole
mean_factor factor_of strips = mean_from factor_of (whole 0) (whole 0) strips

unfoldable pub strips_factor : ℕ → Float → Float → List Surface → List ShadingSegment → List WindowShadingObject → Result Float Refusal
strips_factor edition altitude azimuth strips sectors window =
    mean_factor (λ strip. shading_factor edition strip altitude azimuth sectors window) strips

-- ---- the call: the edition is tried first (14), then angles and strips (3), then the lists (4), then the step itself (8 to 11)

unfoldable pub strips_call : ℕ → Float → Float → TallGlazing → List ℕ → List ℕ → List ℕ → Result Float Refusal
strips_call edition altitude azimuth glazing heights sectors window =
    cond (edition_fine edition)
    (cond (sun_fine altitude azimuth && strips_fine glazing heights)
    (cond (sectors_fine sectors && window_fine window)
    (strips_factor edition altitude azimuth (strips_of glazing heights) (sectors_of sectors) (window_objects_of window))
    (Err refusal.Object))
    (Err refusal.Surface))
    (Err refusal.Edition)
