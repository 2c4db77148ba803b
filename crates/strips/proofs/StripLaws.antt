-- The laws of strips, proved: the mean of factor calls, refused alike, and the laws of the factor strip by strip. Assumes nothing.
use Rattle.std.specs.Prelude.{Err, Float, Ok, Result}
use mathlib.Core.Path.{◌≡◌, refl, sym, ap, ◌∙◌}
use mathlib.Core.Bool.{Bool, true, false, cond, ◌&&◌}
use mathlib.Core.List.{List, [], Memᴰ}
use Prim.Native.Nat.{ℕ}
use lib.Dec.{T}
use lib.Ieee.{Float}
use lib.Ieee.Fits.{and_r}
use lib.Ieee.Bits.{is_true}
use Rattle.doubles.specs.Arithmetic.{whole}
use Rattle.doubles.specs.Order.{◌≼◌, Fits}
use Rattle.doubles.proofs.Order.{le_refl}
use Rattle.doubles.proofs.Bounds.{zero_number}
use Rattle.doubles.proofs.Ranges.{Between}
use Rattle.words.specs.Words.{word_count}
use Rattle.words.specs.Lists.{PlaceByPlace}
use Rattle.objects.specs.declared.surface.Surface.{Surface}
use Rattle.objects.specs.declared.answers.Refusal.{Refusal}
use Rattle.objects.specs.declared.answers.Refusal.TheVariants as refusal
use Rattle.objects.specs.Objects.{counted}
use Rattle.objects.specs.Records.{sectors_of, window_objects_of}
use Rattle.objects.specs.Surface.{surface_fine}
use Rattle.object_checks.specs.Checks.{sectors_fine, window_fine}
use Rattle.beam.specs.Beam.{outside_solar_beam}
use Rattle.fins.specs.Fins.{edition_fine}
use Rattle.segments.specs.Segments.{segment_of}
use Rattle.segments.proofs.SameWalks.{found_has}
use Rattle.shading.specs.Factor.{sun_on, has_reveal, factor_in, shading_factor}
use Rattle.shading.specs.Call.{sun_fine, factor_call}
use Rattle.shading_laws.specs.Premises.{AcceptedSurface, Doubles, MoreInSector, SameInSector, Holds}
use Rattle.shading_laws.specs.Sizes.{NoLargerAnswer}
use Rattle.shading_laws.proofs.Answers.{not_refused, same_factor, answer_nonneg, answer_le_one, answer_no_objects, answers_more_objects, answers_same_objects}
use Rattle.shading_laws.proofs.Accepted.{accepted_surface, accepted_near}
use Rattle.shading_laws.proofs.SizeLaws.{sizes_in_calls}
use Rattle.objects.specs.declared.sectors.ShadingSegment.{ShadingSegment}
use Rattle.strips.specs.declared.glazing.TallGlazing.{TallGlazing}
use Rattle.strips.specs.Strips.{strip_of, heights_of, strips_of, strips_fine, mean_factor, strips_factor, strips_call}
use Rattle.strips.specs.Laws.{ByFactorCalls, RefusedAlike, NoNanInStrips, NoObjects, Lawful, StripsCompared, SizesInStrips}
use Rattle.strips.proofs.Means.{no_sums, AllBetween, HasFactor, all_factors, mean_between, mean_one, mean_same, mean_falls}
use Rattle.strips.proofs.StripLists.{strip_has, heights_fit, all_fine_lem, strips_all_fine, strips_stacked, lowest_base, lowest_member, not_none}
use Rattle.strips.proofs.Walks.{lowest_refused}

-- ---- a factor call for a surface in its ranges

and-true : (b : Bool) → b && true ≡ b
and-true true = refl
and-true false = refl

module _ (edition : ℕ) (altitude azimuth : Float) (l w : List ℕ) where
  -- what the checks before the step leave of an answer
  checked : Result Float Refusal → Result Float Refusal
  checked answer =
      cond (edition_fine edition) (cond (sun_fine altitude azimuth) (cond (sectors_fine l && window_fine w) answer (Err refusal.Object)) (Err refusal.Surface)) (Err refusal.Edition)

  call_checked : (s : Surface) → T (surface_fine s) → factor_call edition altitude azimuth s l w ≡ checked (shading_factor edition s altitude azimuth (sectors_of l) (window_objects_of w))
  unfolding checked factor_call
  call_checked s t = rw (is_true (surface_fine s) t, and-true (sun_fine altitude azimuth)) refl

  strips_checked : (glazing : TallGlazing) (heights : List ℕ) → T (strips_fine glazing heights)
      → strips_call edition altitude azimuth glazing heights l w ≡ checked (strips_factor edition altitude azimuth (strips_of glazing heights) (sectors_of l) (window_objects_of w))
  unfolding checked strips_call
  strips_checked glazing heights t = rw (is_true (strips_fine glazing heights) t, and-true (sun_fine altitude azimuth)) refl

  -- an accepted one: the window list has passed its check, and the factor is that of the step
  record AcceptedCall (s : Surface) (x : Float) : Type 0 where
    window : T (window_fine w)
    factor : shading_factor edition s altitude azimuth (sectors_of l) (window_objects_of w) ≡ Ok x

  accepted_call : (s : Surface) (x : Float) → T (surface_fine s) → factor_call edition altitude azimuth s l w ≡ Ok x → AcceptedCall s x
  unfolding checked
  accepted_call s x t e = go (edition_fine edition) (sun_fine altitude azimuth) (sectors_fine l && window_fine w) refl (sym (call_checked s t) ∙ e)
    where
      go : (a b c : Bool) → sectors_fine l && window_fine w ≡ c
          → cond a (cond b (cond c (shading_factor edition s altitude azimuth (sectors_of l) (window_objects_of w)) (Err refusal.Object)) (Err refusal.Surface)) (Err refusal.Edition) ≡ Ok x
          → AcceptedCall s x
      go false b c k e = not_refused e
      go true false c k e = not_refused e
      go true true false k e = not_refused e
      go true true true k e = record { window = and_r (sectors_fine l) (window_fine w) (rw k tt); factor = e }

-- ---- the mean of factor calls

pub by_factor_calls : ByFactorCalls
unfolding checked strips_factor mean_factor
by_factor_calls edition altitude azimuth glazing heights l w t =
    strips_checked edition altitude azimuth l w glazing heights t
    ∙ go (edition_fine edition) (sun_fine altitude azimuth) (sectors_fine l && window_fine w) (λ s m. call_checked edition altitude azimuth l w s (all_fine_lem (strips_of glazing heights) (strips_all_fine glazing heights t) s m))
  where
    step : Surface → Result Float Refusal
    step s = shading_factor edition s altitude azimuth (sectors_of l) (window_objects_of w)

    refused : (r : Refusal) → ((s : Surface) → Memᴰ s (strips_of glazing heights) → factor_call edition altitude azimuth s l w ≡ Err r)
        → Err r ≡ mean_factor (λ strip. factor_call edition altitude azimuth strip l w) (strips_of glazing heights)
    refused r each = lowest_refused glazing heights t (λ strip. factor_call edition altitude azimuth strip l w) r (each _ (lowest_member glazing heights t))

    go : (a b c : Bool)
        → ((s : Surface) → Memᴰ s (strips_of glazing heights) → factor_call edition altitude azimuth s l w ≡ cond a (cond b (cond c (step s) (Err refusal.Object)) (Err refusal.Surface)) (Err refusal.Edition))
        → cond a (cond b (cond c (mean_factor step (strips_of glazing heights)) (Err refusal.Object)) (Err refusal.Surface)) (Err refusal.Edition)
        ≡ mean_factor (λ strip. factor_call edition altitude azimuth strip l w) (strips_of glazing heights)
    go false b c each = refused refusal.Edition each
    go true false c each = refused refusal.Surface each
    go true true false each = refused refusal.Object each
    go true true true each = mean_same step (λ strip. factor_call edition altitude azimuth strip l w) (strips_of glazing heights) (whole 0) (whole 0) (λ s m. sym (each s m))

-- ---- refused alike

-- a step is refused by its walk and its window list, whatever the strip's base and height
step_alike : (edition : ℕ) (altitude azimuth : Float) (l w : List ℕ) (glazing : TallGlazing) (a b c d : Float) (r : Refusal)
    → shading_factor edition (strip_of glazing a b) altitude azimuth (sectors_of l) (window_objects_of w) ≡ Err r
    → shading_factor edition (strip_of glazing c d) altitude azimuth (sectors_of l) (window_objects_of w) ≡ Err r
unfolding shading_factor factor_in strip_of
step_alike edition altitude azimuth l w glazing a b c d r e =
    go (outside_solar_beam glazing.tilt glazing.orientation altitude azimuth) (segment_of azimuth (sectors_of l)) (has_reveal (window_objects_of w)) refl e
  where
    answer : Float → Float → Bool → Result ShadingSegment Refusal → Result Float Refusal
    answer base height outside there =
        cond outside (Ok (whole 1)) (factor_in (strip_of glazing base height) (sun_on edition (strip_of glazing base height) altitude azimuth) (window_objects_of w) there)

    go : (o : Bool) (s : Result ShadingSegment Refusal) (v : Bool) → has_reveal (window_objects_of w) ≡ v → answer a b o s ≡ Err r → answer c d o s ≡ Err r
    go true s v k e = not_refused (sym e)
    go false (Err r) v k e = e
    go false (Ok s) true k e = rw k (rw k at e)
    go false (Ok s) false k e = not_refused (sym (rw k at e))

pub refused_alike : RefusedAlike
unfolding checked strips_of
refused_alike edition altitude azimuth glazing heights l w t s u m n r e =
    let fine = all_fine_lem (strips_of glazing heights) (strips_all_fine glazing heights t) in
    call_checked edition altitude azimuth l w u (fine u n)
    ∙ go (edition_fine edition) (sun_fine altitude azimuth) (sectors_fine l && window_fine w)
    (strip_has glazing (λ z. step z ≡ Err r → step u ≡ Err r)
    (λ a b. strip_has glazing (λ z. step (strip_of glazing a b) ≡ Err r → step z ≡ Err r) (λ c d. step_alike edition altitude azimuth l w glazing a b c d r) (heights_of heights) glazing.base_height u n)
    (heights_of heights) glazing.base_height s m)
    (sym (call_checked edition altitude azimuth l w s (fine s m)) ∙ e)
  where
    step : Surface → Result Float Refusal
    step z = shading_factor edition z altitude azimuth (sectors_of l) (window_objects_of w)

    go : (a b c : Bool) → (step s ≡ Err r → step u ≡ Err r)
        → cond a (cond b (cond c (step s) (Err refusal.Object)) (Err refusal.Surface)) (Err refusal.Edition) ≡ Err r
        → cond a (cond b (cond c (step u) (Err refusal.Object)) (Err refusal.Surface)) (Err refusal.Edition) ≡ Err r
    go false b c h e = e
    go true false c h e = e
    go true true false h e = e
    go true true true h e = h e

-- ---- the laws of the factor, strip by strip

-- where there is a factor the strips have passed their check
strips_passed : (edition : ℕ) (altitude azimuth : Float) (glazing : TallGlazing) (heights l w : List ℕ) (x : Float) → strips_call edition altitude azimuth glazing heights l w ≡ Ok x
    → T (strips_fine glazing heights)
unfolding strips_call
strips_passed edition altitude azimuth glazing heights l w x e = go (edition_fine edition) (sun_fine altitude azimuth) (strips_fine glazing heights) _ e
  where
    go : (a b c : Bool) (answer : Result Float Refusal) → cond a (cond (b && c) answer (Err refusal.Surface)) (Err refusal.Edition) ≡ Ok x → T c
    go a b true answer e = tt
    go false b false answer e = not_refused e
    go true true false answer e = not_refused e
    go true false false answer e = not_refused e

no_larger : {a b : Result Float Refusal} {x y : Float} → a ≡ Ok x → b ≡ Ok y → NoLargerAnswer a b → y ≼ x
unfolding NoLargerAnswer
no_larger e f h = rw (e, f) at h

module _ (edition : ℕ) (altitude azimuth : Float) (glazing : TallGlazing) (heights : List ℕ) (t : T (strips_fine glazing heights)) (d : Fits glazing.width) where
  abbrev strips : List Surface
  strips = strips_of glazing heights

  fine : (s : Surface) → Memᴰ s strips → T (surface_fine s)
  fine = all_fine_lem (strips_of glazing heights) (strips_all_fine glazing heights t)

  doubles : (s : Surface) → Memᴰ s strips → Doubles s
  unfolding strips_of heights_of strip_of
  doubles s m = record {
    height_fits = heights_fit glazing heights (word_count heights) 0 glazing.base_height s m;
    width_fits = strip_has glazing (λ z. Fits z.width) (λ a b. d) (heights_of heights) glazing.base_height s m;
  }

  accepted : (s : Surface) → Memᴰ s strips → AcceptedSurface s
  accepted s m = accepted_surface s (fine s m) (doubles s m)

  module _ (l w : List ℕ) (n : NoNanInStrips edition altitude azimuth strips l w) where
    abbrev calls : Surface → Result Float Refusal
    calls s = factor_call edition altitude azimuth s l w

    calls_between : AllBetween calls strips
    calls_between s m x e =
        let a = accepted_call edition altitude azimuth l w s x (fine s m) e in
        let near = accepted_near w a.window in
        record { low = answer_nonneg (accepted s m) (n s m) near x a.factor; high = answer_le_one (accepted s m) (n s m) near x a.factor }

    module _ (x : Float) (e : mean_factor calls strips ≡ Ok x) where
      has : (s : Surface) → Memᴰ s strips → HasFactor (calls s)
      unfolding mean_factor
      has = all_factors calls strips (whole 0) (whole 0) x e

      between : Between (whole 1) x
      unfolding mean_factor
      between = mean_between calls strips (strips_stacked glazing heights t) (no_sums (lowest_base glazing heights t)) (not_none glazing heights t) calls_between x e

      one : NoObjects l w → x ≡ whole 1
      unfolding mean_factor
      one o =
          same_factor (sym e
          ∙ mean_one calls strips (strips_stacked glazing heights t) (no_sums (lowest_base glazing heights t)) (not_none glazing heights t)
          (λ s m.
          let a = accepted_call edition altitude azimuth l w s (has s m).value (fine s m) (has s m).is in
          (has s m).is
          ∙ ap Ok (answer_no_objects edition altitude azimuth (sectors_of l) (accepted s m)
          (found_has (λ z. counted z ≡ []) azimuth (sectors_of l) o.in_sectors) (has s m).value
          (ap (shading_factor edition s altitude azimuth (sectors_of l)) (sym o.at_window) ∙ a.factor))))

      lawful : Lawful l w x
      lawful = record { from = between.low; to = between.high; one = one }

  module _ (l m w v : List ℕ) (n : NoNanInStrips edition altitude azimuth strips l w) (k : NoNanInStrips edition altitude azimuth strips m v) where
    -- no larger where no strip's factor is
    falls : ((s : Surface) → Memᴰ s strips → NoLargerAnswer (calls l w n s) (calls m v k s)) → NoLargerAnswer (mean_factor (calls l w n) strips) (mean_factor (calls m v k) strips)
    unfolding mean_factor
    falls each =
        mean_falls (calls l w n) (calls m v k) strips (whole 0) (strips_stacked glazing heights t) (no_sums (lowest_base glazing heights t)) (le_refl zero_number) (le_refl zero_number)
        (not_none glazing heights t) each (calls_between l w n) (calls_between m v k)

    module _ (x y : Float) (e : mean_factor (calls l w n) strips ≡ Ok x) (f : mean_factor (calls m v k) strips ≡ Ok y) where
      -- both calls of a strip
      first : (s : Surface) (i : Memᴰ s strips) → AcceptedCall edition altitude azimuth l w s (has l w n x e s i).value
      first s i = accepted_call edition altitude azimuth l w s (has l w n x e s i).value (fine s i) (has l w n x e s i).is

      second : (s : Surface) (i : Memᴰ s strips) → AcceptedCall edition altitude azimuth m v s (has m v k y f s i).value
      second s i = accepted_call edition altitude azimuth m v s (has m v k y f s i).value (fine s i) (has m v k y f s i).is

      same : PlaceByPlace SameInSector (sectors_of l) (sectors_of m) → Holds (window_objects_of v) (window_objects_of w) → Holds (window_objects_of w) (window_objects_of v) → x ≡ y
      unfolding mean_factor
      same p h g =
          same_factor (sym e
          ∙ mean_same (calls l w n) (calls m v k) strips (whole 0) (whole 0)
          (λ s i.
          (has l w n x e s i).is
          ∙ ap Ok (answers_same_objects (accepted s i) (n s i) (k s i) (accepted_near w (first s i).window) (accepted_near v (second s i).window) _ _ (first s i).factor (second s i).factor p h g)
          ∙ sym (has m v k y f s i).is)
          ∙ f)

      more : PlaceByPlace MoreInSector (sectors_of l) (sectors_of m) → Holds (window_objects_of v) (window_objects_of w) → y ≼ x
      unfolding NoLargerAnswer
      more p h =
          no_larger e f
          (falls (λ s i. rw ((has l w n x e s i).is, (has m v k y f s i).is)
          (answers_more_objects (accepted s i) (n s i) (k s i) (accepted_near w (first s i).window) (accepted_near v (second s i).window) _ _ (first s i).factor (second s i).factor p h)))

pub strips_compared : StripsCompared
strips_compared edition altitude azimuth glazing heights l m w v x y d e f n k =
    let t = strips_passed edition altitude azimuth glazing heights l w x e in
    let e' = sym (by_factor_calls edition altitude azimuth glazing heights l w t) ∙ e in
    let f' = sym (by_factor_calls edition altitude azimuth glazing heights m v t) ∙ f in
    record {
      first = lawful edition altitude azimuth glazing heights t d l w n x e';
      second = lawful edition altitude azimuth glazing heights t d m v k y f';
      same_objects = same edition altitude azimuth glazing heights t d l m w v n k x y e' f';
      more_objects = more edition altitude azimuth glazing heights t d l m w v n k x y e' f';
    }

pub sizes_in_strips : SizesInStrips
unfolding strips_call NoLargerAnswer
sizes_in_strips edition altitude azimuth glazing heights l m w v d e n k p q = go (strips_fine glazing heights) refl
  where
    refused : (a b : Bool) (x y : Result Float Refusal)
        → NoLargerAnswer (cond a (cond (b && false) x (Err refusal.Surface)) (Err refusal.Edition)) (cond a (cond (b && false) y (Err refusal.Surface)) (Err refusal.Edition))
    refused false b x y = refl
    refused true true x y = refl
    refused true false x y = refl

    go : (b : Bool) → strips_fine glazing heights ≡ b → NoLargerAnswer (strips_call edition altitude azimuth glazing heights l w) (strips_call edition altitude azimuth glazing heights m v)
    go false i = rw i (refused (edition_fine edition) (sun_fine altitude azimuth) _ _)
    go true i =
        let t : T (strips_fine glazing heights) = rw i tt in
        rw (by_factor_calls edition altitude azimuth glazing heights l w t, by_factor_calls edition altitude azimuth glazing heights m v t)
        (falls edition altitude azimuth glazing heights t d l m w v n k
        (λ s j. sizes_in_calls edition altitude azimuth s l m w v (doubles edition altitude azimuth glazing heights t d s j) e (n s j) (k s j) p q))
