-- An accepted window list: at most sixteen objects, which the places of `window_of` hold, and every value in its range.
use mathlib.Core.Path.{◌≡◌}
use mathlib.Core.Logic.{inl, inr}
use mathlib.Core.Bool.{Bool, true, false, cond, ◌&&◌, ◌||◌}
use mathlib.Core.List.{List, Memᴰ}
use Prim.Native.Nat.{ℕ, ◌+◌, ◌*◌, ◌≤◌, ◌<◌}
use native.Mathlib.Decide.{dec_lt}
use native.Mathlib.Omega.{arith}
use borrow.Author.Tests.{ne_eqb}
use lib.Dec.{T, leb, eqb, leb→le}
use lib.ListN.{length, take}
use lib.Ieee.{Float}
use Rattle.doubles.specs.Arithmetic.{whole}
use Rattle.doubles.specs.Order.{◌≼◌, ◌≺◌, InRange}
use Rattle.doubles.specs.Ranges.{within, above_zero}
use Rattle.doubles.proofs.Ranges.{both_of, within_range, above_range}
use Rattle.words.specs.Words.{word_count, word_at, double_at}
use Rattle.objects.specs.declared.window.WindowShadingObject.{WindowShadingObject}
use Rattle.objects.specs.declared.window.WindowShadingType.TheVariants as near
use Rattle.objects.specs.Objects.{kind_number, of_kind}
use Rattle.object_checks.specs.Checks.{window_values_fine, window_record_fine, window_fine}
use Rattle.objects.specs.Records.{window_kind, window_object_at, window_count, no_window_object, window_objects_of, window_of}
use Rattle.objects.proofs.Places.{take_filled}
use Rattle.object_checks.proofs.Accepted.{either_of, few_records, record_fine, member_records}

-- a kind word that reads as an obstacle is 0
others : (a b d : Bool) → T (eqb 0 (kind_number (cond a near.Overhang (cond b near.SideFinRight (cond d near.SideFinLeft near.Reveal))))) → ⊥
unfolding kind_number
others true b d t = t
others false true d t = t
others false false true t = t
others false false false t = t

obstacle_word : (kind : ℕ) → T (eqb 0 (kind_number (window_kind kind))) → kind ≡ 0
unfolding window_kind
obstacle_word kind t =
    elim (dec_lt 0 kind) [
      | no n ↦ omega arith
      | yes h ↦
          let e : eqb kind 0 ≡ false = ne_eqb kind 0 (omega arith) in
          absurd (others (eqb kind 1) (eqb kind 2) (eqb kind 3) (rw e at t))
    ]

-- ---- the values of one object

module _ (kind : ℕ) (size distance transparency : Float) (spare : ℕ) (t : T (window_values_fine kind size distance transparency spare)) where
  tests : T (above_zero (whole 1000) size) × T (within (whole 0) (whole 10000) distance)
      × T (eqb kind 0 && within (whole 0) (whole 1) transparency || leb 1 kind && leb kind 4 && eqb spare 0)
  unfolding window_values_fine
  tests =
      let a = above_zero (whole 1000) size in
      let b = within (whole 0) (whole 10000) distance in
      let d = eqb kind 0 && within (whole 0) (whole 1) transparency || leb 1 kind && leb kind 4 && eqb spare 0 in
      let p = both_of (a && b) d t in
      let q = both_of a b p.0 in
      (q.0, q.1, p.1)

  size_values : (whole 0 ≺ size) × (size ≼ whole 1000)
  size_values = above_range (whole 1000) size tests.0

  distance_values : InRange (whole 0) (whole 10000) distance
  distance_values = within_range (whole 0) (whole 10000) distance tests.1

  transparency_values : kind ≡ 0 → InRange (whole 0) (whole 1) transparency
  transparency_values e =
      elim (either_of (eqb kind 0 && within (whole 0) (whole 1) transparency) (leb 1 kind && leb kind 4 && eqb spare 0) tests.2) [
        | inl o ↦ within_range (whole 0) (whole 1) transparency (both_of (eqb kind 0) (within (whole 0) (whole 1) transparency) o).1
        | inr o ↦
            let p = both_of (leb 1 kind && leb kind 4) (eqb spare 0) o in
            let q = both_of (leb 1 kind) (leb kind 4) p.0 in
            let g : 1 ≤ kind = leb→le 1 kind q.0 in
            absurd (omega arith)
      ]

-- ---- the objects of an accepted list

-- what is known of each: an obstacle alone has a transparency
pub record WindowInRange (o : WindowShadingObject) : Type 0 where
  pub size_range : (whole 0 ≺ o.size) × (o.size ≼ whole 1000)
  pub distance_range : InRange (whole 0) (whole 10000) o.distance
  pub transparency_range : T (of_kind near.Obstacle o) → InRange (whole 0) (whole 1) o.transparency

place_in_range : (l : List ℕ) (i : ℕ) → T (window_record_fine l i) → WindowInRange (window_object_at l i)
unfolding window_record_fine window_object_at of_kind
place_in_range l i t =
    let k = 4 * i in
    let values = size_values (word_at l k) (double_at l (k + 1)) (double_at l (k + 2)) (double_at l (k + 3)) (word_at l (k + 3)) t in
    record {
      size_range = values;
      distance_range = distance_values (word_at l k) (double_at l (k + 1)) (double_at l (k + 2)) (double_at l (k + 3)) (word_at l (k + 3)) t;
      transparency_range = λ o. transparency_values (word_at l k) (double_at l (k + 1)) (double_at l (k + 2)) (double_at l (k + 3)) (word_at l (k + 3)) t (obstacle_word (word_at l k) o);
    }

module _ (l : List ℕ) (t : T (window_fine l)) where
  few : length l ≤ 512
  unfolding window_fine
  few = few_records 32 16 window_record_fine l t

  pub window_count_lem : window_count l ≤ 16
  unfolding word_count window_count
  window_count_lem = omega (arith, few)

  pub window_places : take (window_of l).count (window_of l).objects ≡ window_objects_of l
  unfolding window_of window_objects_of
  window_places = take_filled (window_object_at l) no_window_object 16 (window_count l) window_count_lem

  pub window_record : (i : ℕ) → i < window_count l → T (window_record_fine l i)
  unfolding window_fine word_count window_count
  window_record i h = record_fine 32 16 window_record_fine l t i (omega arith)

  pub window_in_range : (o : WindowShadingObject) → Memᴰ o (window_objects_of l) → WindowInRange o
  unfolding window_objects_of
  window_in_range = member_records (window_object_at l) WindowInRange (window_count l) 0 (λ j h. place_in_range l j (window_record j (omega arith)))
