-- Records in places: one place after the other is filled, and the filled ones are the list's records; and where a record's words
-- stand. Assumes nothing.
use mathlib.Core.Path.{◌≡◌, refl, sym, ap, ◌∙◌}
use mathlib.Core.Bool.{Bool, true, false, cond}
use mathlib.Core.List.{List, ◌∷◌}
use Prim.Native.Nat.{ℕ, zero, suc, ◌+◌, ◌*◌, ◌≤◌, ◌<◌}
use native.Mathlib.Nat.{not-suc-le-zero, le_of_suc-le-suc}
use native.Mathlib.Decide.{dec_lt}
use native.Mathlib.Omega.{arith}
use borrow.Author.Tests.{lt-ltb, le-ltb, ltb-true, ltb-false}
use lib.Dec.{ltb}
use lib.ListN.{get_or, set, take, replicate}
use Rattle.words.specs.Words.{word_count}
use Rattle.objects.specs.declared.sectors.ShadingSegment.{ShadingSegment}
use Rattle.objects.specs.Records.{records_from, filled, segment_at, no_segment, sector_count, sectors_of, sector_places}

module _ {Record : Type 0} (f g : ℕ → Record) where
  alike : (s m : ℕ) → ((j : ℕ) → s ≤ j → f j ≡ g j) → records_from f s m ≡ records_from g s m
  unfolding records_from
  alike s zero h = refl
  alike s (suc m) h = λ k. h s (omega arith) k ∷ alike (suc s) m (λ j b. h j (omega (arith, b))) k

  -- two runs of records that differ at one place
  one_set : (s m i p : ℕ) → p ≡ s + i → i < m → ((j : ℕ) → (j ≡ p → ⊥) → f j ≡ g j) → set (records_from f s m) i (g p) ≡ records_from g s m
  unfolding records_from
  one_set s zero i p e b h = absurd (not-suc-le-zero b)
  one_set s (suc m) zero p e b h = λ k. g (here k) ∷ alike (suc s) m (λ j c. h j (λ z. omega (arith, z, c, e))) k
    where
      here : p ≡ s
      here = omega (arith, e)
  one_set s (suc m) (suc i) p e b h =
      λ k. h s (λ z. omega (arith, z, e)) k ∷ one_set (suc s) m i p (omega (arith, e)) (le_of_suc-le-suc b) h k

  -- the first n of m
  first_of : (s m n : ℕ) → n ≤ m → ((j : ℕ) → j < s + n → f j ≡ g j) → take n (records_from f s m) ≡ records_from g s n
  unfolding records_from
  first_of s m zero b h = refl
  first_of s zero (suc n) b h = absurd (not-suc-le-zero b)
  first_of s (suc m) (suc n) b h = λ k. h s (omega arith) k ∷ first_of (suc s) m n (le_of_suc-le-suc b) (λ j c. h j (omega (arith, c))) k

same_test : (i j : ℕ) → (j ≡ i → ⊥) → (t : Bool) → ltb j i ≡ t → ltb j i ≡ ltb j (i + 1)
same_test i j h true e = e ∙ sym (lt-ltb j (i + 1) (omega (arith, ltb-true j i e)))
same_test i j h false e = e ∙ sym (le-ltb j (i + 1) (omega (arith, ltb-false j i e, h)))

module _ {Record : Type 0} (place : ℕ → Record) (blank : Record) where
  blanks : (size i : ℕ) → replicate size blank ≡ records_from (λ (j : ℕ). cond (ltb j 0) (place j) blank) i size
  unfolding records_from
  blanks zero i = refl
  blanks (suc size) i = rw (le-ltb i 0 (omega arith)) (ap (λ (r : List Record). blank ∷ r) (blanks size (suc i)))

  -- no place is filled yet
  pub none_filled : (size : ℕ) → replicate size blank ≡ filled place blank size 0
  unfolding filled
  none_filled size = blanks size 0

  -- one more
  pub one_filled : (size i : ℕ) → i < size → set (filled place blank size i) i (place i) ≡ filled place blank size (i + 1)
  unfolding filled
  one_filled size i b =
      ap (set (records_from (λ (j : ℕ). cond (ltb j i) (place j) blank) 0 size) i) there
      ∙ one_set (λ (j : ℕ). cond (ltb j i) (place j) blank) (λ (j : ℕ). cond (ltb j (i + 1)) (place j) blank) 0 size i i (omega arith) b elsewhere
    where
      there : place i ≡ cond (ltb i (i + 1)) (place i) blank
      there = rw (lt-ltb i (i + 1) (omega arith))

      elsewhere : (j : ℕ) → (j ≡ i → ⊥) → cond (ltb j i) (place j) blank ≡ cond (ltb j (i + 1)) (place j) blank
      elsewhere j h = ap (λ (t : Bool). cond t (place j) blank) (same_test i j h (ltb j i) refl)

  -- the filled places hold the records
  pub take_filled : (size n : ℕ) → n ≤ size → take n (filled place blank size n) ≡ records_from place 0 n
  unfolding filled
  take_filled size n few = first_of (λ (j : ℕ). cond (ltb j n) (place j) blank) place 0 size n few (λ j h. rw (lt-ltb j n (omega (arith, h))))

-- the first n of m records
pub take_records : {Record : Type 0} (place : ℕ → Record) (s m n : ℕ) → n ≤ m → take n (records_from place s m) ≡ records_from place s n
take_records place s m n few = first_of place place s m n few (λ j h. refl)

-- the i-th of n records
pub record_from : {Record : Type 0} (place : ℕ → Record) (d : Record) (s n i : ℕ) → i < n → get_or (records_from place s n) i d ≡ place (s + i)
unfolding records_from
record_from place d s zero i h = absurd (not-suc-le-zero h)
record_from place d s (suc n) zero h = let e : s ≡ s + 0 = omega arith in ap place e
record_from place d s (suc n) (suc i) h = let e : suc s + i ≡ s + suc i = omega arith in record_from place d (suc s) n i (le_of_suc-le-suc h) ∙ ap place e

past_records : {Record : Type 0} (place : ℕ → Record) (d : Record) (s n i : ℕ) → n ≤ i → get_or (records_from place s n) i d ≡ d
unfolding records_from
past_records place d s zero i h = refl
past_records place d s (suc n) zero h = absurd (not-suc-le-zero h)
past_records place d s (suc n) (suc i) h = past_records place d (suc s) n i (le_of_suc-le-suc h)

-- what stands in a place: the record, or a blank past the last one
filled_at : {Record : Type 0} (place : ℕ → Record) (blank d : Record) (size n i : ℕ) → i < size
    → get_or (filled place blank size n) i d ≡ get_or (records_from place 0 n) i blank
unfolding filled
filled_at place blank d size n i h =
    record_from (λ (j : ℕ). cond (ltb j n) (place j) blank) d 0 size i h
    ∙ elim (dec_lt i n) [
      | yes g ↦ rw (lt-ltb (0 + i) n (omega (arith, g))) (sym (record_from place blank 0 n i g))
      | no g ↦ rw (le-ltb (0 + i) n (omega (arith, g))) (sym (past_records place blank 0 n i (omega (arith, g))))
    ]

-- the sectors of a list are the first of their table
pub sectors_taken : (l : List ℕ) (n : ℕ) (places : List ShadingSegment) → n ≡ sector_count l → n ≤ 36 → places ≡ sector_places l n → take n places ≡ sectors_of l
unfolding sector_places sectors_of
sectors_taken l n places e few p = ap (take n) p ∙ take_filled (segment_at l) no_segment 36 n few ∙ ap (records_from (segment_at l) 0) e

-- and what stands in a place of the table stands in that of the list
pub table_record : (l : List ℕ) (n i : ℕ) (places : List ShadingSegment) (d : ShadingSegment) → n ≡ sector_count l → i < 36 → places ≡ sector_places l n
    → get_or places i d ≡ get_or (sectors_of l) i no_segment
unfolding sector_places sectors_of
table_record l n i places d e few p =
    ap (λ (ps : List ShadingSegment). get_or ps i d) p
    ∙ filled_at (segment_at l) no_segment d 36 n i few
    ∙ ap (λ (m : ℕ). get_or (records_from (segment_at l) 0 m) i no_segment) e

-- the d-th word of a sector is one of the list's
pub sector_word : (l : List ℕ) (i d : ℕ) → i < sector_count l → d < 27 → 27 * i + d < word_count l
unfolding sector_count
sector_word l i d h g = omega (arith, h, g)
