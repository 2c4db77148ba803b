-- An accepted sector list: at most 36 sectors, each with at most eight counted objects, and the tests that they have passed.
use mathlib.Core.Path.{◌≡◌, subst}
use mathlib.Core.Bool.{true, ◌&&◌}
use mathlib.Core.List.{List, Memᴰ}
use Prim.Native.Nat.{ℕ, ◌+◌, ◌*◌, ◌≤◌, ◌<◌}
use native.Mathlib.Omega.{arith}
use lib.Dec.{T, ltb, leb, leb→le, lt→ltb}
use lib.ListN.{length}
use lib.Ieee.{Float}
use lib.Ieee.Bits.{is_true}
use Rattle.doubles.specs.Arithmetic.{whole}
use Rattle.doubles.specs.Order.{◌≼◌, ◌≺◌}
use Rattle.doubles.specs.Ranges.{within, above_zero}
use Rattle.doubles.proofs.Ranges.{both_of, above_range}
use Rattle.words.specs.Lists.{first_fine}
use Rattle.words.specs.Words.{word_count, word_at, double_at}
use Rattle.objects.specs.declared.sectors.ShadingObject.{ShadingObject}
use Rattle.objects.specs.declared.sectors.ShadingSegment.{ShadingSegment}
use Rattle.objects.specs.Objects.{counted}
use Rattle.objects.specs.Records.{object_at, objects_from, segment_at, sector_count, sectors_of}
use Rattle.objects.proofs.Places.{take_records}
use Rattle.object_checks.specs.Checks.{object_values_fine, object_fine, triple_fine, bounds_fine, sector_record_fine, sectors_fine}
use Rattle.object_checks.proofs.Accepted.{first_fine_lem, few_records, record_fine, member_records}

-- ---- one counted object

pub object_tests : (kind : ℕ) (height distance : Float) → T (object_values_fine kind height distance)
    → T (leb kind 1) × T (above_zero (whole 1000) height) × T (above_zero (whole 10000) distance)
unfolding object_values_fine
object_tests kind height distance t =
    let p = both_of (leb kind 1 && above_zero (whole 1000) height) (above_zero (whole 10000) distance) t in
    let q = both_of (leb kind 1) (above_zero (whole 1000) height) p.0 in
    (q.0, q.1, p.1)

-- what is known of it
pub record DistantInRange (o : ShadingObject) : Type 0 where
  pub height_range : (whole 0 ≺ o.height) × (o.height ≼ whole 1000)
  pub distance_range : (whole 0 ≺ o.distance) × (o.distance ≼ whole 10000)

object_in_range : (l : List ℕ) (k : ℕ) → T (object_fine l k) → DistantInRange (object_at l k)
unfolding object_fine object_at
object_in_range l k t =
    let p = object_tests (word_at l k) (double_at l (k + 1)) (double_at l (k + 2)) t in
    record { height_range = above_range (whole 1000) (double_at l (k + 1)) p.1; distance_range = above_range (whole 10000) (double_at l (k + 2)) p.2 }

-- ---- one sector

pub bounds_tests : (start360 end360 : Float) (count : ℕ) → T (bounds_fine start360 end360 count)
    → T (within (whole 0) (whole 360) start360) × T (within (whole 0) (whole 360) end360) × T (leb count 8)
unfolding bounds_fine
bounds_tests start360 end360 count t =
    let p = both_of (within (whole 0) (whole 360) start360 && within (whole 0) (whole 360) end360) (leb count 8) t in
    let q = both_of (within (whole 0) (whole 360) start360) (within (whole 0) (whole 360) end360) p.0 in
    (q.0, q.1, p.1)

pub sector_tests : (l : List ℕ) (i : ℕ) → T (sector_record_fine l i)
    → T (bounds_fine (double_at l (27 * i)) (double_at l (27 * i + 1)) (word_at l (27 * i + 2))) × T (first_fine (triple_fine l (word_at l (27 * i + 2)) (27 * i + 3)) 8)
unfolding sector_record_fine
sector_tests l i t =
    both_of (bounds_fine (double_at l (27 * i)) (double_at l (27 * i + 1)) (word_at l (27 * i + 2))) (first_fine (triple_fine l (word_at l (27 * i + 2)) (27 * i + 3)) 8) t

-- ---- the sectors of an accepted list

module _ (l : List ℕ) (t : T (sectors_fine l)) where
  few : length l ≤ 7776
  unfolding sectors_fine
  few = few_records 216 36 sector_record_fine l t

  pub sector_count_lem : sector_count l ≤ 36
  unfolding word_count sector_count
  sector_count_lem = omega (arith, few)

  pub sector_record : (i : ℕ) → i < sector_count l → T (sector_record_fine l i)
  unfolding sectors_fine word_count sector_count
  sector_record i h = record_fine 216 36 sector_record_fine l t i (omega arith)

  few_counted : (i : ℕ) → i < sector_count l → word_at l (27 * i + 2) ≤ 8
  few_counted i h =
      leb→le (word_at l (27 * i + 2)) 8
      (bounds_tests (double_at l (27 * i)) (double_at l (27 * i + 1)) (word_at l (27 * i + 2)) (sector_tests l i (sector_record i h)).0).2

  -- the counted objects of a sector are its first triples
  pub counted_objects : (i : ℕ) → i < sector_count l → counted (segment_at l i) ≡ objects_from l (27 * i + 3) (word_at l (27 * i + 2))
  unfolding counted segment_at objects_from
  counted_objects i h = take_records (λ (j : ℕ). object_at l (27 * i + 3 + 3 * j)) 0 8 (word_at l (27 * i + 2)) (few_counted i h)

  counted_fine_lem : (i : ℕ) → i < sector_count l → (j : ℕ) → j < word_at l (27 * i + 2) → T (object_fine l (27 * i + 3 + 3 * j))
  unfolding triple_fine
  counted_fine_lem i h j g =
      let count : ℕ = word_at l (27 * i + 2) in
      let b : ltb j count ≡ true = is_true (ltb j count) (lt→ltb j count g) in
      rw b at (first_fine_lem (triple_fine l count (27 * i + 3)) 8 j (sector_tests l i (sector_record i h)).1 (omega (arith, few_counted i h, g)))

  -- every counted object of every sector is in its range
  pub sectors_in_range : (s : ShadingSegment) → Memᴰ s (sectors_of l) → (o : ShadingObject) → Memᴰ o (counted s) → DistantInRange o
  unfolding sectors_of
  sectors_in_range =
      member_records (segment_at l) (λ (s : ShadingSegment). (o : ShadingObject) → Memᴰ o (counted s) → DistantInRange o) (sector_count l) 0 (λ i h. at_place i (omega arith))
    where
      from_words : (i : ℕ) → i < sector_count l → (o : ShadingObject) → Memᴰ o (objects_from l (27 * i + 3) (word_at l (27 * i + 2))) → DistantInRange o
      from_words i h = unfold objects_from in
          (member_records (λ (j : ℕ). object_at l (27 * i + 3 + 3 * j)) DistantInRange (word_at l (27 * i + 2)) 0 (λ j g. object_in_range l (27 * i + 3 + 3 * j) (counted_fine_lem i h j (omega arith))))

      at_place : (i : ℕ) → i < sector_count l → (o : ShadingObject) → Memᴰ o (counted (segment_at l i)) → DistantInRange o
      at_place i h o m = from_words i h o (subst (Memᴰ o) (counted_objects i h) m)
