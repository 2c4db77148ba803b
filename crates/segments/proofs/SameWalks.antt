-- Two walks along sectors that start and end alike end alike, stated of any relation of sectors that says no less than that: the walk
-- compares, and no comparison tells level doubles apart. And what holds of every sector holds of the one that is found. Assumes nothing.
use mathlib.Core.Path.{◌≡◌, refl, ap, ap₂, ◌∙◌, subst}
use mathlib.Core.Bool.{Bool, true, false, not, ◌&&◌, ◌||◌, cond}
use mathlib.Core.List.{List, [], ◌∷◌, Memᴰ}
use Prim.Native.Nat.{ℕ, zero, suc, ◌+◌}
use native.Mathlib.Omega.{arith}
use lib.Dec.{T}
use lib.Ieee.{Float, nan, inf, fin, lt, le, eq, ne}
use Rattle.doubles.specs.Arithmetic.{◌⊖◌, whole}
use Rattle.doubles.specs.Order.{◌≼◌, ◌≺◌, ◌≈◌, Number, Finite}
use Rattle.doubles.proofs.Order.{or_right, eq→cross, cross→le, finite_number, left_number, right_number, le_refl, le_trans, lt_excludes, le_lt_trans, lt-le_trans}
use Rattle.doubles.proofs.Monotone.{sub_mono}
use Rattle.doubles.proofs.Ranges.{finite_minus}
use Rattle.orientation.specs.Orientation.{orientation180}
use Rattle.objects.specs.declared.sectors.ShadingSegment.{ShadingSegment}
use Rattle.std.specs.Prelude.{Ok, Err, Result}
use Rattle.objects.specs.declared.answers.Refusal.{Refusal}
use Rattle.objects.specs.declared.answers.Refusal.TheVariants as refusal
use Rattle.segments.specs.Segments.{between_ends, holds_azimuth, visit, place_from, place_of, sector_at, segment_in, segment_of}
use Rattle.words.specs.Lists.{PlaceByPlace, none, and_then}
use Rattle.segments.specs.SameSectors.{SameBounds}

-- two walks that come to sectors so related, or end the same way
pub data SameWalk (R : ShadingSegment → ShadingSegment → Type 0) : Result ShadingSegment Refusal → Result ShadingSegment Refusal → Type 0 where
  both_found : {s t : ShadingSegment} → R s t → SameWalk R (Ok s) (Ok t)
  both_none : {r : Refusal} → SameWalk R (Err r) (Err r)

-- ---- level doubles

pub level_back : {x y : Float} → x ≈ y → y ≈ x
level_back p = record { below = p.above; above = p.below }

level_trans : {x y z : Float} → x ≈ y → y ≈ z → x ≈ z
level_trans p q = record { below = le_trans p.below q.below; above = le_trans q.above p.above }

-- level is what the machine's `==` finds equal
eq→level : (x y : Float) → T (eq x y) → x ≈ y
unfolding le eq
eq→level x y t = record { below = record { holds = or_right (lt x y) (eq x y) t }; above = turned_round x y t }
  where
    turned_round : (x y : Float) → T (eq x y) → y ≼ x
    turned_round nan y t = absurd t
    turned_round (inf s) nan t = absurd t
    turned_round (inf true) (inf true) t = record { holds = tt }
    turned_round (inf true) (inf false) t = absurd t
    turned_round (inf false) (inf true) t = absurd t
    turned_round (inf false) (inf false) t = record { holds = tt }
    turned_round (inf s) (fin u n d) t = absurd t
    turned_round (fin s m e) nan t = absurd t
    turned_round (fin s m e) (inf u) t = absurd t
    turned_round (fin s m e) (fin u n d) t =
        cross→le {x = fin u n d} {y = fin s m e} (record { holds = tt }) (record { holds = tt }) (omega (arith, eq→cross (fin s m e) (fin u n d) tt tt t))

level→eq : {x y : Float} → x ≈ y → T (eq x y)
unfolding le
level→eq {x} {y} p = go (lt x y) (eq x y) p.below.holds (λ t. lt_excludes (record { holds = t }) p.above)
  where
    go : (b c : Bool) → T (b || c) → (T b → ⊥) → T c
    go true c t f = absurd (f tt)
    go false c t f = t

same_test : (b c : Bool) → (T b → T c) → (T c → T b) → b ≡ c
same_test true true f g = refl
same_test false false f g = refl
same_test true false f g = absurd (f tt)
same_test false true f g = absurd (g tt)

lt_left : (a : Float) {x y : Float} → x ≈ y → lt x a ≡ lt y a
lt_left a {x} {y} p = same_test (lt x a) (lt y a) (go p) (go (level_back p))
  where
    go : {x y : Float} → x ≈ y → T (lt x a) → T (lt y a)
    go {x} {y} p t = let l : x ≺ a = record { holds = t } in (le_lt_trans p.above l).holds

lt_right : (a : Float) {x y : Float} → x ≈ y → lt a x ≡ lt a y
lt_right a {x} {y} p = same_test (lt a x) (lt a y) (go p) (go (level_back p))
  where
    go : {x y : Float} → x ≈ y → T (lt a x) → T (lt a y)
    go {x} {y} p t = let l : a ≺ x = record { holds = t } in (lt-le_trans l p.below).holds

ne_alike : {x x' y y' : Float} → x ≈ x' → y ≈ y' → ne x y ≡ ne x' y'
unfolding ne
ne_alike {x} {x'} {y} {y'} p q = ap not (same_test (eq x y) (eq x' y') (go p q) (go (level_back p) (level_back q)))
  where
    go : {x x' y y' : Float} → x ≈ x' → y ≈ y' → T (eq x y) → T (eq x' y')
    go {x} {x'} {y} {y'} p q t = level→eq (level_trans (level_back p) (level_trans (eq→level x y t) q))

finite_180 : Finite (whole 180)
unfolding whole
finite_180 = record { holds = tt }

-- and level orientations are level from south
from_south : {x y : Float} → x ≈ y → orientation180 x ≈ orientation180 y
unfolding orientation180
from_south {x} {y} p =
    let level : whole 180 ≼ whole 180 = le_refl (finite_number finite_180) in
    let m : Number (whole 180 ⊖ x) = finite_minus finite_180 (left_number p.below) in
    let n : Number (whole 180 ⊖ y) = finite_minus finite_180 (right_number p.below) in
    record { below = sub_mono level p.above m n; above = sub_mono level p.below n m }

turned_alike : (s t : ShadingSegment) → SameBounds s t → lt s.end360 s.start360 ≡ lt t.end360 t.start360
turned_alike s t e = lt_left s.start360 e.ends ∙ lt_right t.end360 e.starts

module _ (azimuth : Float) where
  holds_alike : (s t : ShadingSegment) → SameBounds s t → holds_azimuth azimuth s ≡ holds_azimuth azimuth t
  unfolding holds_azimuth between_ends
  holds_alike s t e = ap₂ (λ (b c : Bool). b && c) (lt_right azimuth (from_south e.starts)) (lt_left azimuth (from_south e.ends))

  visit_alike : (i : ℕ) (s t : ShadingSegment) {x y : Result ℕ Refusal} → SameBounds s t → x ≡ y → visit azimuth i s x ≡ visit azimuth i t y
  unfolding visit
  visit_alike i s t e r = rw (turned_alike s t e, holds_alike s t e, r)

module _ (R : ShadingSegment → ShadingSegment → Type 0) (bounds : (s t : ShadingSegment) → R s t → SameBounds s t) (azimuth : Float) where
  walk_alike : (last last' : Float) (i : ℕ) {ss ts : List ShadingSegment} → last ≈ last' → PlaceByPlace R ss ts
      → place_from azimuth last i ss ≡ place_from azimuth last' i ts
  unfolding place_from
  walk_alike last last' i l none = refl
  walk_alike last last' i l (and_then {x = s} {y = t} {xs = ss} {ys = ts} r p) =
      ap₂ (λ (b : Bool) (q : Result ℕ Refusal). cond b (Err refusal.Gap) q) (ne_alike l (bounds s t r).starts)
      (visit_alike azimuth i s t (bounds s t r) (walk_alike s.end360 t.end360 (i + 1) (bounds s t r).ends p))

  -- the walks end at the same place
  pub place_alike : {ss ts : List ShadingSegment} → PlaceByPlace R ss ts → place_of azimuth ss ≡ place_of azimuth ts
  unfolding place_of
  place_alike none = refl
  place_alike (and_then {x = s} {y = t} {xs = ss} {ys = ts} r p) = visit_alike azimuth 0 s t (bounds s t r) (walk_alike s.end360 t.end360 1 (bounds s t r).ends p)

  sector_alike : {ss ts : List ShadingSegment} → PlaceByPlace R ss ts → (i : ℕ) → SameWalk R (sector_at ss i) (sector_at ts i)
  unfolding sector_at
  sector_alike none i = both_none
  sector_alike (and_then r p) zero = both_found r
  sector_alike (and_then r p) (suc i) = sector_alike p i

  in_alike : {ss ts : List ShadingSegment} → PlaceByPlace R ss ts → (q : Result ℕ Refusal) → SameWalk R (segment_in ss q) (segment_in ts q)
  unfolding segment_in
  in_alike p (Ok i) = sector_alike p i
  in_alike p (Err r) = both_none

  -- so they come to sectors so related, or stop for the same reason
  pub segment_alike : {ss ts : List ShadingSegment} → PlaceByPlace R ss ts → SameWalk R (segment_of azimuth ss) (segment_of azimuth ts)
  unfolding segment_of
  segment_alike {ss} {ts} p = rw (place_alike p) (in_alike p (place_of azimuth ts))

-- ---- the sector that the walk finds is one of the list

module _ (P : ShadingSegment → Type 0) where
  abbrev IfFound : Result ShadingSegment Refusal → Type 0
  IfFound (Ok s) = P s
  IfFound (Err r) = Unit {0}

  sector_has : (ss : List ShadingSegment) → ((s : ShadingSegment) → Memᴰ s ss → P s) → (i : ℕ) → IfFound (sector_at ss i)
  unfolding sector_at
  sector_has [] h i = tt
  sector_has (s ∷ ss) h zero = h s (Memᴰ.head refl)
  sector_has (s ∷ ss) h (suc i) = sector_has ss (λ t m. h t (Memᴰ.tail m)) i

  in_has : (ss : List ShadingSegment) → ((s : ShadingSegment) → Memᴰ s ss → P s) → (q : Result ℕ Refusal) → IfFound (segment_in ss q)
  unfolding segment_in
  in_has ss h (Ok i) = sector_has ss h i
  in_has ss h (Err r) = tt

  -- what holds of every sector of a list holds of the one that is found
  pub found_has : (azimuth : Float) (ss : List ShadingSegment) → ((s : ShadingSegment) → Memᴰ s ss → P s)
      → (s : ShadingSegment) → segment_of azimuth ss ≡ Ok s → P s
  unfolding segment_of
  found_has azimuth ss h s e = subst IfFound e (in_has ss h (place_of azimuth ss))
