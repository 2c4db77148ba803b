-- From the words of two jobs' lists to their records: sectors bounded alike, and lists that hold all objects of others. A record goes by
-- its words alone. Assumes nothing.
use mathlib.Core.Path.{◌≡◌, refl, sym, ap, ◌∙◌, subst}
use mathlib.Core.Logic.{inl, inr}
use mathlib.Core.List.Memᴰ
use mathlib.Core.List.{List, [], Memᴰ}
use Prim.Native.Nat.{ℕ, zero, suc, ◌+◌, ◌*◌, ◌<◌}
use native.Mathlib.Omega.{arith}
use lib.Dec.{T}
use lib.ListN.{length, get_or, take}
use lib.Ieee.{binary64, of_bits}
use Rattle.words.specs.Words.{word_at, double_at}
use Rattle.objects.specs.declared.sectors.ShadingObject.{ShadingObject}
use Rattle.objects.specs.declared.sectors.ShadingSegment.{ShadingSegment}
use Rattle.objects.specs.declared.window.WindowShadingObject.{WindowShadingObject}
use Rattle.object_checks.specs.Checks.{sectors_fine}
use Rattle.objects.specs.Objects.{counted}
use Rattle.objects.specs.Records.{records_from, distant_kind, object_at, objects_from, segment_at, sector_count, sectors_of, window_kind, window_object_at, window_count, window_objects_of}
use Rattle.words.specs.Lists.{PlaceByPlace, none, and_then}
use Rattle.segments.specs.SameSectors.{SameBounds}
use Rattle.shading_laws.specs.Premises.{Holds, MoreInSector, SameInSector}
use Rattle.object_checks.proofs.Accepted.{length_records, member_records}
use Rattle.object_checks.proofs.AcceptedSectors.{counted_objects}
use Rattle.jobs.specs.Comparison.{BoundedAlike, triple, sector_objects, window_object, window_objects}

-- ---- objects by their words

-- a list that holds all of another still does when each object is replaced by what its words make of it
record Preimage {X Y : Type 0} (f : X → Y) (xs : List X) (y : Y) : Type 0 where
  object : X
  member : Memᴰ object xs
  value : y ≡ f object

module _ {X Y : Type 0} (f : X → Y) (words : ℕ → X) (made : ℕ → Y) (same : (n : ℕ) → made n ≡ f (words n)) where
  words_of : (n i : ℕ) (y : Y) → Memᴰ y (records_from made i n) → Preimage f (records_from words i n) y
  unfolding records_from
  words_of zero i y m = absurd (Memᴰ.not-nil m)
  words_of (suc n) i y m =
      elim (Memᴰ.cases_cons m) [
        | inl e ↦ record { object = words i; member = Memᴰ.head refl; value = e ∙ same i }
        | inr k ↦ let p = words_of n (suc i) y k in record { object = p.object; member = Memᴰ.tail p.member; value = p.value }
      ]

  made_of : (n i : ℕ) (x : X) → Memᴰ x (records_from words i n) → Memᴰ (f x) (records_from made i n)
  unfolding records_from
  made_of zero i x m = absurd (Memᴰ.not-nil m)
  made_of (suc n) i x m =
      elim (Memᴰ.cases_cons m) [
        | inl e ↦ Memᴰ.head (ap f e ∙ sym (same i))
        | inr k ↦ Memᴰ.tail (made_of n (suc i) x k)
      ]

module _ {X Y : Type 0} (f : X → Y) (words words' : ℕ → X) (made made' : ℕ → Y) (same : (n : ℕ) → made n ≡ f (words n)) (same' : (n : ℕ) → made' n ≡ f (words' n)) where
  made_holds : (m n : ℕ) → Holds (records_from words' 0 m) (records_from words 0 n) → Holds (records_from made' 0 m) (records_from made 0 n)
  made_holds m n h y k =
      let p = words_of f words made same n 0 y k in
      subst (λ (z : Y). Memᴰ z (records_from made' 0 m)) (sym p.value) (made_of f words' made' same' m 0 p.object (h p.object p.member))

-- the object of three words, and of four
triple_of : List ℕ → ShadingObject
triple_of w = record { object_type = distant_kind (get_or w 0 0); height = of_bits binary64 (get_or w 1 0); distance = of_bits binary64 (get_or w 2 0) }

object_of : List ℕ → WindowShadingObject
object_of w = record {
  object_type = window_kind (get_or w 0 0);
  size = of_bits binary64 (get_or w 1 0);
  distance = of_bits binary64 (get_or w 2 0);
  transparency = of_bits binary64 (get_or w 3 0);
}

triple_is : (l : List ℕ) (k : ℕ) → object_at l k ≡ triple_of (triple l k)
unfolding object_at triple_of triple double_at
triple_is l k = refl

object_is : (l : List ℕ) (i : ℕ) → window_object_at l i ≡ object_of (window_object l i)
unfolding window_object_at object_of window_object double_at
object_is l i = refl

pub window_holds : (l m : List ℕ) → Holds (window_objects m) (window_objects l) → Holds (window_objects_of m) (window_objects_of l)
unfolding window_objects window_objects_of
window_holds l m h =
    made_holds object_of (window_object l) (window_object m) (window_object_at l) (window_object_at m) (object_is l) (object_is m) (window_count m) (window_count l) h

objects_hold : (l m : List ℕ) (i : ℕ) → Holds (sector_objects m i) (sector_objects l i)
    → Holds (objects_from m (27 * i + 3) (word_at m (27 * i + 2))) (objects_from l (27 * i + 3) (word_at l (27 * i + 2)))
unfolding sector_objects objects_from
objects_hold l m i h =
    made_holds triple_of (λ (n : ℕ). triple l (27 * i + 3 + 3 * n)) (λ (n : ℕ). triple m (27 * i + 3 + 3 * n))
    (λ (n : ℕ). object_at l (27 * i + 3 + 3 * n)) (λ (n : ℕ). object_at m (27 * i + 3 + 3 * n))
    (λ n. triple_is l (27 * i + 3 + 3 * n)) (λ n. triple_is m (27 * i + 3 + 3 * n)) (word_at m (27 * i + 2)) (word_at l (27 * i + 2)) h

-- ---- sectors

same_bounds : (l m : List ℕ) → BoundedAlike l m → (i : ℕ) → i < sector_count l → SameBounds (segment_at l i) (segment_at m i)
unfolding segment_at
same_bounds l m b i h = record { starts = b.starts i h; ends = b.ends i h }

sector_holds : (l m : List ℕ) → T (sectors_fine l) → T (sectors_fine m) → (i : ℕ) → i < sector_count l → i < sector_count m
    → Holds (sector_objects m i) (sector_objects l i) → Holds (counted (segment_at m i)) (counted (segment_at l i))
sector_holds l m t u i g h k =
    subst (λ (xs : List ShadingObject). Holds xs (counted (segment_at l i))) (sym (counted_objects m u i h))
    (subst (λ (xs : List ShadingObject). Holds (objects_from m (27 * i + 3) (word_at m (27 * i + 2))) xs) (sym (counted_objects l t i g)) (objects_hold l m i k))

-- what relates the sectors at every place relates the lists
place_by_place : (R : ShadingSegment → ShadingSegment → Type 0) (l m : List ℕ) (n i : ℕ) → ((j : ℕ) → j < i + n → R (segment_at l j) (segment_at m j))
    → PlaceByPlace R (records_from (segment_at l) i n) (records_from (segment_at m) i n)
unfolding records_from
place_by_place R l m zero i h = none
place_by_place R l m (suc n) i h = and_then (h i (omega arith)) (place_by_place R l m n (suc i) (λ j k. h j (omega arith)))

by_places : (R : ShadingSegment → ShadingSegment → Type 0) (l m : List ℕ) → sector_count l ≡ sector_count m
    → ((i : ℕ) → i < sector_count l → R (segment_at l i) (segment_at m i)) → PlaceByPlace R (sectors_of l) (sectors_of m)
unfolding sectors_of
by_places R l m e h =
    subst (λ (n : ℕ). PlaceByPlace R (records_from (segment_at l) 0 (sector_count l)) (records_from (segment_at m) 0 n)) e
    (place_by_place R l m (sector_count l) 0 (λ j k. h j (omega arith)))

module _ (l m : List ℕ) (t : T (sectors_fine l)) (u : T (sectors_fine m)) (b : BoundedAlike l m) where
  -- m holds all objects of l
  pub more_in_sectors : ((i : ℕ) → i < sector_count l → Holds (sector_objects m i) (sector_objects l i)) → PlaceByPlace MoreInSector (sectors_of l) (sectors_of m)
  more_in_sectors h =
      by_places MoreInSector l m b.lengths
      (λ i k. record { bounds = same_bounds l m b i k; holds = sector_holds l m t u i k (rw (← b.lengths) k) (h i k) })

  -- and l all of m
  pub same_in_sectors : ((i : ℕ) → i < sector_count l → Holds (sector_objects m i) (sector_objects l i))
      → ((i : ℕ) → i < sector_count m → Holds (sector_objects l i) (sector_objects m i)) → PlaceByPlace SameInSector (sectors_of l) (sectors_of m)
  same_in_sectors h g =
      by_places SameInSector l m b.lengths
      (λ i k.
      let k' : i < sector_count m = rw (← b.lengths) k in
      record { bounds = same_bounds l m b i k; holds = sector_holds l m t u i k k' (h i k); held = sector_holds m l u t i k' k (g i k') })

-- ---- no objects

no_records : {X : Type 0} (place : ℕ → X) (n : ℕ) → records_from place 0 n ≡ [] → n ≡ 0
no_records place n e = sym (length_records place n 0) ∙ ap length e

-- no window objects, no records of them
pub no_window : (l : List ℕ) → window_objects l ≡ [] → window_objects_of l ≡ []
unfolding window_objects window_objects_of records_from
no_window l e = ap (records_from (window_object_at l) 0) (no_records (window_object l) (window_count l) e)

-- no counted triples, no counted objects
no_counted : (l : List ℕ) (i : ℕ) → sector_objects l i ≡ [] → counted (segment_at l i) ≡ []
unfolding sector_objects counted segment_at
no_counted l i e = ap (λ (n : ℕ). take n (objects_from l (27 * i + 3) 8)) (no_records (λ (n : ℕ). triple l (27 * i + 3 + 3 * n)) (word_at l (27 * i + 2)) e)

-- so of every sector of the list
pub none_counted : (l : List ℕ) → ((i : ℕ) → i < sector_count l → sector_objects l i ≡ []) → (s : ShadingSegment) → Memᴰ s (sectors_of l) → counted s ≡ []
unfolding sectors_of
none_counted l h = member_records (segment_at l) (λ (s : ShadingSegment). counted s ≡ []) (sector_count l) 0 (λ i k. no_counted l i (h i (omega arith)))
