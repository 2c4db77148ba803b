-- The records of the sector list and of the window list, in words of 8 bytes. What is past the end of a list reads as 0.
use Rattle.std.specs.Prelude.{cond, List, [], ◌∷◌, ℕ, zero, suc, ◌+◌, ◌*◌, ◌/◌, ◌≤◌, eqb, ltb, replicate}
use Rattle.doubles.specs.Arithmetic.{whole}
use Rattle.doubles.specs.Order.{Number}
use Rattle.words.specs.Words.{word_count, word_at, double_at}
use Rattle.objects.specs.declared.sectors.ShadingObject.{ShadingObject}
use Rattle.objects.specs.declared.sectors.ShadingObjectType.{ShadingObjectType}
use Rattle.objects.specs.declared.sectors.ShadingObjectType.TheVariants as distant
use Rattle.objects.specs.declared.sectors.ShadingSegment.{ShadingSegment}
use Rattle.objects.specs.declared.window.WindowShadingObject.{WindowShadingObject}
use Rattle.objects.specs.declared.window.WindowShading.{WindowShading}
use Rattle.objects.specs.declared.window.WindowShadingType.{WindowShadingType}
use Rattle.objects.specs.declared.window.WindowShadingType.TheVariants as near

-- n records from the i-th on
unfoldable pub records_from : {Record : Type 0} → (ℕ → Record) → ℕ → ℕ → List Record
records_from place i zero = []
records_from place i (suc n) = place i ∷ records_from place (suc i) n

-- `size` places, of which the first n hold records and the rest a blank
unfoldable pub filled : {Record : Type 0} → (ℕ → Record) → Record → ℕ → ℕ → List Record
filled place blank size n = records_from (λ (i : ℕ). cond (ltb i n) (place i) blank) 0 size

-- ---- the sector list

-- 0 obstacle, 1 overhang
unfoldable pub distant_kind : ℕ → ShadingObjectType
distant_kind kind = cond (eqb kind 0) distant.Obstacle distant.Overhang

-- the triple from word k on: kind, height, distance
unfoldable pub object_at : List ℕ → ℕ → ShadingObject
object_at l k = record { object_type = distant_kind (word_at l k); height = double_at l (k + 1); distance = double_at l (k + 2) }

-- n triples, the first at word k
unfoldable pub objects_from : List ℕ → ℕ → ℕ → List ShadingObject
objects_from l k n = records_from (λ (j : ℕ). object_at l (k + 3 * j)) 0 n

-- what stands in a place that no object has
unfoldable pub no_object : ShadingObject
no_object = record { object_type = distant.Obstacle; height = whole 0; distance = whole 0 }

-- the i-th sector, of 27 words: start, end, count, then eight triples
unfoldable pub segment_at : List ℕ → ℕ → ShadingSegment
unfolding objects_from
segment_at l i =
    let k = 27 * i in
    record {
      start360 = double_at l k;
      end360 = double_at l (k + 1);
      count = word_at l (k + 2);
      shading_objects = objects_from l (k + 3) 8;
    }

-- how many whole records a list has
unfoldable pub sector_count : List ℕ → ℕ
sector_count l = word_count l / 27

-- all of them, in order
unfoldable pub sectors_of : List ℕ → List ShadingSegment
sectors_of l = records_from (segment_at l) 0 (sector_count l)

-- What the reading of a list asks, and every list that passes its check has: room for its sectors, and no word that reads as NaN.
pub record Readable (l : List ℕ) : Type 0 where
  pub few : sector_count l ≤ 36
  pub numbers : (k : ℕ) → Number (double_at l k)

-- what stands in a place that no sector has
unfoldable pub no_segment : ShadingSegment
no_segment = record { start360 = whole 0; end360 = whole 0; count = 0; shading_objects = replicate 8 no_object }

-- the first n sectors in 36 places
unfoldable pub sector_places : List ℕ → ℕ → List ShadingSegment
sector_places l n = filled (segment_at l) no_segment 36 n

-- ---- the window list

-- 0 obstacle, 1 overhang, 2 right fin, 3 left fin, 4 reveal
unfoldable pub window_kind : ℕ → WindowShadingType
window_kind kind =
    cond (eqb kind 0) near.Obstacle
    (cond (eqb kind 1) near.Overhang (cond (eqb kind 2) near.SideFinRight (cond (eqb kind 3) near.SideFinLeft near.Reveal)))

-- the i-th object, of four words: kind, size, distance, and an obstacle's transparency
unfoldable pub window_object_at : List ℕ → ℕ → WindowShadingObject
window_object_at l i =
    let k = 4 * i in
    record {
      object_type = window_kind (word_at l k);
      size = double_at l (k + 1);
      distance = double_at l (k + 2);
      transparency = double_at l (k + 3);
    }

-- how many whole records a list has
unfoldable pub window_count : List ℕ → ℕ
window_count l = word_count l / 4

-- all of them, in order
unfoldable pub window_objects_of : List ℕ → List WindowShadingObject
window_objects_of l = records_from (window_object_at l) 0 (window_count l)

-- what stands in a place that no object has
unfoldable pub no_window_object : WindowShadingObject
no_window_object = record { object_type = near.Obstacle; size = whole 0; distance = whole 0; transparency = whole 0 }

-- the same in sixteen places
unfoldable pub window_of : List ℕ → WindowShading
window_of l = record { count = window_count l; objects = filled (window_object_at l) no_window_object 16 (window_count l) }
