-- When a sector list or a window list is turned down (refusal 4).
use Rattle.std.specs.Prelude.{Bool, cond, ◌&&◌, ◌||◌, List, ℕ, ◌+◌, ◌*◌, ◌/◌, ◌%◌, ltb, leb, eqb, length, Float}
use Rattle.doubles.specs.Arithmetic.{whole}
use Rattle.doubles.specs.Ranges.{within, above_zero}
use Rattle.words.specs.Words.{word_at, double_at}
use Rattle.words.specs.Lists.{first_fine}

-- ---- lists of records

-- whole records of `size` bytes, at most `most` of them, and every one fine
unfoldable pub records_fine : ℕ → ℕ → (List ℕ → ℕ → Bool) → List ℕ → Bool
records_fine size most fine l = eqb (length l % size) 0 && leb (length l) (most * size) && first_fine (fine l) (length l / size)

-- ---- the window list

-- Kind 0 is an obstacle: height, distance, transparency 0..1. Kinds 1 to 4: depth, distance, spare word zero (all bits 0).
-- Heights and depths are above 0 and up to 1000, distances 0..10,000.
unfoldable pub window_values_fine : ℕ → Float → Float → Float → ℕ → Bool
unfolding within above_zero whole
window_values_fine kind size distance transparency spare =
    above_zero (whole 1000) size
    && within (whole 0) (whole 10000) distance
    && (eqb kind 0 && within (whole 0) (whole 1) transparency || leb 1 kind && leb kind 4 && eqb spare 0)

-- the record of four words at the i-th place: the fourth is a transparency or spare
unfoldable pub window_record_fine : List ℕ → ℕ → Bool
window_record_fine l i =
    let k = 4 * i in
    window_values_fine (word_at l k) (double_at l (k + 1)) (double_at l (k + 2)) (double_at l (k + 3)) (word_at l (k + 3))

-- at most 16 records of 32 bytes
unfoldable pub window_fine : List ℕ → Bool
window_fine l = records_fine 32 16 window_record_fine l

-- ---- the sector list

-- a counted triple: kind 0 or 1, height above 0 and up to 1000, distance above 0 and up to 10,000
unfoldable pub object_values_fine : ℕ → Float → Float → Bool
unfolding above_zero whole
object_values_fine kind height distance = leb kind 1 && above_zero (whole 1000) height && above_zero (whole 10000) distance

unfoldable pub object_fine : List ℕ → ℕ → Bool
object_fine l k = object_values_fine (word_at l k) (double_at l (k + 1)) (double_at l (k + 2))

-- an unused triple is zero (all bits 0)
unfoldable pub object_unused : List ℕ → ℕ → Bool
object_unused l k = eqb (word_at l k) 0 && eqb (word_at l (k + 1)) 0 && eqb (word_at l (k + 2)) 0

-- the j-th triple of those from word k on, of which the first `count` are counted
unfoldable pub triple_fine : List ℕ → ℕ → ℕ → ℕ → Bool
triple_fine l count k j = cond (ltb j count) (object_fine l (k + 3 * j)) (object_unused l (k + 3 * j))

-- the first n triples from word k on are in their ranges, and n words from the k-th on are zero
unfoldable pub counted_fine : List ℕ → ℕ → ℕ → Bool
counted_fine l k n = first_fine (λ (j : ℕ). object_fine l (k + 3 * j)) n

unfoldable pub words_zero : List ℕ → ℕ → ℕ → Bool
words_zero l k n = first_fine (λ (j : ℕ). eqb (word_at l (k + j)) 0) n

-- start and end 0..360, a count of at most 8
unfoldable pub bounds_fine : Float → Float → ℕ → Bool
unfolding within whole
bounds_fine start360 end360 count = within (whole 0) (whole 360) start360 && within (whole 0) (whole 360) end360 && leb count 8

-- the record of 27 words at the i-th place
unfoldable pub sector_record_fine : List ℕ → ℕ → Bool
sector_record_fine l i =
    let k = 27 * i in
    let count = word_at l (k + 2) in
    bounds_fine (double_at l k) (double_at l (k + 1)) count && first_fine (triple_fine l count (k + 3)) 8

-- at most 36 records of 216 bytes
unfoldable pub sectors_fine : List ℕ → Bool
sectors_fine l = records_fine 216 36 sector_record_fine l
