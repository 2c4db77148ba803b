-- The laws at one step, of answers that are factors: from 0 to 1, exactly 1 without objects, and of two lists of sectors that are
-- bounded alike no larger where there are more objects, the same where the objects are. Assumes nothing.
use Rattle.std.specs.Prelude.{Err, Float, Ok, Result}
use mathlib.Core.Path.{◌≡◌, refl, ap, sym, subst}
use mathlib.Core.Bool.{Bool, true, false, cond}
use mathlib.Core.List.{List, []}
use Prim.Native.Nat.{ℕ}
use lib.Dec.{T}
use lib.Ieee.{Float, lt, fits}
use Rattle.doubles.specs.Arithmetic.{whole}
use Rattle.doubles.specs.Order.{◌≼◌, ◌≺◌, Fits}
use Rattle.doubles.proofs.Order.{le_refl}
use Rattle.doubles.proofs.Bounds.{one_number, zero-le_one}
use Rattle.objects.specs.declared.surface.Surface.{Surface}
use Rattle.objects.specs.declared.sectors.ShadingSegment.{ShadingSegment}
use Rattle.objects.specs.declared.window.WindowShadingObject.{WindowShadingObject}
use Rattle.objects.specs.declared.answers.Refusal.{Refusal}
use Rattle.objects.specs.declared.answers.Refusal.TheVariants as refusal
use Rattle.beam.specs.Beam.{outside_solar_beam}
use Rattle.segments.specs.Segments.{segment_of}
use Rattle.objects.specs.Objects.{counted}
use Rattle.shading.specs.Factor.{sun_on, has_reveal, reduction_factor, factor_in, shading_factor}
use Rattle.words.specs.Lists.{PlaceByPlace}
use Rattle.segments.specs.SameSectors.{SameBounds}
use Rattle.shading_laws.specs.Premises.{AcceptedSurface, NoNanAt, AcceptedNear, Holds, MoreInSector, SameInSector}
use Rattle.segments.proofs.SameWalks.{SameWalk, both_found, both_none, segment_alike}
use Rattle.shading_laws.proofs.Bounds.{factor_nonneg, factor_le_one}
use Rattle.shading_laws.proofs.NoObjects.{factor_no_objects}
use Rattle.shading_laws.proofs.MoreObjects.{factor_more_objects}
use Rattle.shading_laws.proofs.SameObjects.{factor_unsigned, factor_same_objects}
use Rattle.shading_laws.proofs.Doubles.{factor_fits}
use Rattle.doubles.proofs.Signs.{Unsigned, positive_unsigned}

-- ---- an answer that is a factor is no refusal, and has one value

is_factor : Result Float Refusal → Bool
is_factor (Ok x) = true
is_factor (Err r) = false

value_of : Result Float Refusal → Float
value_of (Ok x) = x
value_of (Err r) = whole 0

pub not_refused : {A : Type 0} {r : Refusal} {x : Float} → ◌≡◌ {A = Result Float Refusal} (Err r) (Ok x) → A
unfolding is_factor
not_refused e = absurd (subst T (sym (ap is_factor e)) tt)

pub same_factor : {x y : Float} → ◌≡◌ {A = Result Float Refusal} (Ok x) (Ok y) → x ≡ y
unfolding value_of
same_factor e = ap value_of e

-- ---- what holds of 1 and of the found sector's factor holds of the answer

module _ (edition : ℕ) (surface : Surface) (altitude azimuth : Float) (ss : List ShadingSegment) (ws : List WindowShadingObject) (P : Float → Type 0) (one : P (whole 1)) where
  pub answer_has : (outside_solar_beam surface.tilt surface.orientation altitude azimuth ≡ false
      → (s : ShadingSegment) → segment_of azimuth ss ≡ Ok s → P (reduction_factor surface (sun_on edition surface altitude azimuth) (counted s) ws))
      → (x : Float) → shading_factor edition surface altitude azimuth ss ws ≡ Ok x → P x
  unfolding shading_factor factor_in
  answer_has inside x e = go (outside_solar_beam surface.tilt surface.orientation altitude azimuth) refl e
    where
      by_reveal : (b : Bool) (f : Float) → P f → cond b (Err refusal.Reveal) (Ok f) ≡ Ok x → P x
      by_reveal true f p e = not_refused e
      by_reveal false f p e = subst P (same_factor e) p

      walked : ((s : ShadingSegment) → segment_of azimuth ss ≡ Ok s → P (reduction_factor surface (sun_on edition surface altitude azimuth) (counted s) ws))
          → (w : Result ShadingSegment Refusal) → segment_of azimuth ss ≡ w → factor_in surface (sun_on edition surface altitude azimuth) ws w ≡ Ok x → P x
      walked h (Err r) k e = not_refused e
      walked h (Ok s) k e = by_reveal (has_reveal ws) (reduction_factor surface (sun_on edition surface altitude azimuth) (counted s) ws) (h s k) e

      go : (b : Bool) → outside_solar_beam surface.tilt surface.orientation altitude azimuth ≡ b
          → cond b (Ok (whole 1)) (factor_in surface (sun_on edition surface altitude azimuth) ws (segment_of azimuth ss)) ≡ Ok x → P x
      go true k e = subst P (same_factor e) one
      go false k e = walked (inside k) (segment_of azimuth ss) refl e

-- ---- and what holds of the two sectors' factors, of two lists bounded alike, holds of the two answers

module _ (R : ShadingSegment → ShadingSegment → Type 0) (bounds : (s t : ShadingSegment) → R s t → SameBounds s t)
    (edition : ℕ) (surface : Surface) (altitude azimuth : Float) (ss ts : List ShadingSegment) (ws vs : List WindowShadingObject)
    (P : Float → Float → Type 0) (one : P (whole 1) (whole 1)) where
  -- the two sectors that are found, inside the beam
  abbrev pub Inside : Type 0
  Inside = outside_solar_beam surface.tilt surface.orientation altitude azimuth ≡ false → (s t : ShadingSegment) → R s t
      → segment_of azimuth ss ≡ Ok s → segment_of azimuth ts ≡ Ok t
      → P (reduction_factor surface (sun_on edition surface altitude azimuth) (counted s) ws) (reduction_factor surface (sun_on edition surface altitude azimuth) (counted t) vs)

  pub answers_have : PlaceByPlace R ss ts → Inside
      → (x y : Float) → shading_factor edition surface altitude azimuth ss ws ≡ Ok x → shading_factor edition surface altitude azimuth ts vs ≡ Ok y → P x y
  unfolding shading_factor factor_in
  answers_have p inside x y e f = go (outside_solar_beam surface.tilt surface.orientation altitude azimuth) refl e f
    where
      pair : {u v : Float} → P u v → ◌≡◌ {A = Result Float Refusal} (Ok u) (Ok x) → ◌≡◌ {A = Result Float Refusal} (Ok v) (Ok y) → P x y
      pair {u} {v} q e f = subst (λ (z : Float). P z y) (same_factor e) (subst (P u) (same_factor f) q)

      by_reveal : (b c : Bool) (u v : Float) → P u v → cond b (Err refusal.Reveal) (Ok u) ≡ Ok x → cond c (Err refusal.Reveal) (Ok v) ≡ Ok y → P x y
      by_reveal true c u v q e f = not_refused e
      by_reveal false true u v q e f = not_refused f
      by_reveal false false u v q e f = pair q e f

      walked : ((s t : ShadingSegment) → R s t → segment_of azimuth ss ≡ Ok s → segment_of azimuth ts ≡ Ok t
          → P (reduction_factor surface (sun_on edition surface altitude azimuth) (counted s) ws) (reduction_factor surface (sun_on edition surface altitude azimuth) (counted t) vs))
          → {w z : Result ShadingSegment Refusal} → SameWalk R w z → segment_of azimuth ss ≡ w → segment_of azimuth ts ≡ z
          → factor_in surface (sun_on edition surface altitude azimuth) ws w ≡ Ok x → factor_in surface (sun_on edition surface altitude azimuth) vs z ≡ Ok y → P x y
      walked h both_none j k e f = not_refused e
      walked h (both_found {s} {t} r) j k e f =
          by_reveal (has_reveal ws) (has_reveal vs) (reduction_factor surface (sun_on edition surface altitude azimuth) (counted s) ws)
          (reduction_factor surface (sun_on edition surface altitude azimuth) (counted t) vs) (h s t r j k) e f

      go : (b : Bool) → outside_solar_beam surface.tilt surface.orientation altitude azimuth ≡ b
          → cond b (Ok (whole 1)) (factor_in surface (sun_on edition surface altitude azimuth) ws (segment_of azimuth ss)) ≡ Ok x
          → cond b (Ok (whole 1)) (factor_in surface (sun_on edition surface altitude azimuth) vs (segment_of azimuth ts)) ≡ Ok y → P x y
      go true k e f = pair one e f
      go false k e f = walked (inside k) (segment_alike R bounds azimuth p) refl refl e f

-- ---- the laws

zero-lt_one : whole 0 ≺ whole 1
unfolding whole lt
zero-lt_one = record { holds = tt }

one_fits : Fits (whole 1)
unfolding whole fits
one_fits = record { holds = tt }

module _ {edition : ℕ} {surface : Surface} {altitude azimuth : Float} {ss : List ShadingSegment} {ws : List WindowShadingObject}
    (a : AcceptedSurface surface) (n : NoNanAt edition surface altitude azimuth ss ws) (b : AcceptedNear ws) (x : Float)
    (e : shading_factor edition surface altitude azimuth ss ws ≡ Ok x) where
  -- every factor lies from 0 to 1
  pub answer_nonneg : whole 0 ≼ x
  answer_nonneg = answer_has edition surface altitude azimuth ss ws (λ (z : Float). whole 0 ≼ z) zero-le_one (λ k s m. factor_nonneg a (n.at_found k s m) b) x e

  pub answer_le_one : x ≼ whole 1
  answer_le_one = answer_has edition surface altitude azimuth ss ws (λ (z : Float). z ≼ whole 1) (le_refl one_number) (λ k s m. factor_le_one a (n.at_found k s m) b) x e

  -- and is never −0.0
  pub answer_unsigned : Unsigned x
  answer_unsigned = answer_has edition surface altitude azimuth ss ws Unsigned (positive_unsigned zero-lt_one) (λ k s m. factor_unsigned a (n.at_found k s m) b) x e

-- every factor is a double, whatever goes in
pub answer_fits : (edition : ℕ) (surface : Surface) (altitude azimuth : Float) (ss : List ShadingSegment) (ws : List WindowShadingObject) (x : Float)
    → shading_factor edition surface altitude azimuth ss ws ≡ Ok x → Fits x
answer_fits edition surface altitude azimuth ss ws =
    answer_has edition surface altitude azimuth ss ws Fits one_fits (λ k s m. factor_fits surface (sun_on edition surface altitude azimuth) (counted s) ws)

-- with no object in the sector that is found, and none at the window, it is exactly 1
pub answer_no_objects : (edition : ℕ) {surface : Surface} (altitude azimuth : Float) (ss : List ShadingSegment) → AcceptedSurface surface
    → ((s : ShadingSegment) → segment_of azimuth ss ≡ Ok s → counted s ≡ [])
    → (x : Float) → shading_factor edition surface altitude azimuth ss [] ≡ Ok x → x ≡ whole 1
answer_no_objects edition {surface} altitude azimuth ss a none x e =
    answer_has edition surface altitude azimuth ss [] (λ (z : Float). z ≡ whole 1) refl
    (λ k s m. rw (none s m) (factor_no_objects surface a (sun_on edition surface altitude azimuth))) x e

module _ {edition : ℕ} {surface : Surface} {altitude azimuth : Float} {ss ts : List ShadingSegment} {ws vs : List WindowShadingObject}
    (a : AcceptedSurface surface) (n : NoNanAt edition surface altitude azimuth ss ws) (m : NoNanAt edition surface altitude azimuth ts vs)
    (b : AcceptedNear ws) (c : AcceptedNear vs) (x y : Float)
    (e : shading_factor edition surface altitude azimuth ss ws ≡ Ok x) (f : shading_factor edition surface altitude azimuth ts vs ≡ Ok y) where
  -- more objects never a larger factor
  pub answers_more_objects : PlaceByPlace MoreInSector ss ts → Holds vs ws → y ≼ x
  answers_more_objects p h =
      answers_have MoreInSector (λ s t r. r.bounds) edition surface altitude azimuth ss ts ws vs (λ (u v : Float). v ≼ u) (le_refl one_number) p
      (λ k s t r i j. factor_more_objects a (n.at_found k s i) (m.at_found k t j) r.holds h b c) x y e f

  -- the same objects, the same factor, bit for bit
  pub answers_same_objects : PlaceByPlace SameInSector ss ts → Holds vs ws → Holds ws vs → x ≡ y
  answers_same_objects p h k =
      answers_have SameInSector (λ s t r. r.bounds) edition surface altitude azimuth ss ts ws vs (λ (u v : Float). u ≡ v) refl p
      (λ o s t r i j. factor_same_objects a (n.at_found o s i) (m.at_found o t j) b c r.holds r.held h k) x y e f
