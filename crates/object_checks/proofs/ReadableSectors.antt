-- An accepted sector list can be read without a test: no word of it reads as NaN. Counts and kinds are small numbers, unused words are
-- 0, and NaN is in no range.
use mathlib.Core.Path.{◌≡◌, sym, subst}
use mathlib.Core.Bool.{◌&&◌}
use mathlib.Core.List.{List}
use Prim.Native.Nat.{ℕ, zero, suc, ◌+◌, ◌*◌, ◌/◌, ◌%◌, ◌≤◌, ◌<◌}
use native.Mathlib.Decide.{dec_lt}
use native.Mathlib.Omega.{arith}
use borrow.Author.Tests.{le-ltb}
use lib.Dec.{T, leb, eqb, leb→le, eqb→eq}
use Rattle.doubles.specs.Arithmetic.{whole}
use Rattle.doubles.specs.Order.{Number}
use Rattle.doubles.specs.Ranges.{within, above_zero}
use Rattle.doubles.proofs.Order.{left_number}
use Rattle.doubles.proofs.Ranges.{both_of, within_range, above_range}
use Rattle.words.specs.Words.{word_count, word_at, double_at}
use Rattle.words.proofs.Patterns.{low_pattern}
use Rattle.objects.specs.Records.{sector_count, Readable}
use Rattle.object_checks.specs.Checks.{object_fine, object_unused, triple_fine, sector_record_fine, sectors_fine}
use Rattle.object_checks.proofs.RecordLists.{counted_triple, unused_triple}
use Rattle.object_checks.proofs.Accepted.{first_fine_lem, whole_records_lem}
use Rattle.object_checks.proofs.AcceptedSectors.{object_tests, bounds_tests, sector_tests, sector_count_lem, sector_record}

module _ (l : List ℕ) where
  -- the k-th word reads as no NaN
  abbrev NumberAt : ℕ → Type 0
  NumberAt k = Number (double_at l k)

  small : (k : ℕ) → word_at l k ≤ 8 → NumberAt k
  unfolding double_at
  small k h = record { holds = low_pattern (word_at l k) (omega (arith, h)) }

  zero_word : (k : ℕ) → T (eqb (word_at l k) 0) → NumberAt k
  zero_word k t = let e : word_at l k ≡ 0 = eqb→eq (word_at l k) 0 t in small k (omega (arith, e))

  moved : (j k : ℕ) → j ≡ k → NumberAt j → NumberAt k
  moved j k e = subst NumberAt e

  -- ---- the d-th word of a triple

  of_object : (k d : ℕ) → d < 3 → T (object_fine l k) → NumberAt (k + d)
  unfolding object_fine
  of_object k d h t = go d h
    where
      tests : T (leb (word_at l k) 1) × T (above_zero (whole 1000) (double_at l (k + 1))) × T (above_zero (whole 10000) (double_at l (k + 2)))
      tests = object_tests (word_at l k) (double_at l (k + 1)) (double_at l (k + 2)) t

      go : (d : ℕ) → d < 3 → NumberAt (k + d)
      go zero h = let few : word_at l k ≤ 1 = leb→le (word_at l k) 1 tests.0 in moved k (k + 0) (omega arith) (small k (omega (arith, few)))
      go (suc zero) h = left_number (above_range (whole 1000) (double_at l (k + 1)) tests.1).1
      go (suc (suc zero)) h = left_number (above_range (whole 10000) (double_at l (k + 2)) tests.2).1
      go (suc (suc (suc d))) h = absurd (omega (arith, h))

  of_unused : (k d : ℕ) → d < 3 → T (object_unused l k) → NumberAt (k + d)
  unfolding object_unused
  of_unused k d h t = go d h
    where
      last : T (eqb (word_at l k) 0 && eqb (word_at l (k + 1)) 0) × T (eqb (word_at l (k + 2)) 0)
      last = both_of (eqb (word_at l k) 0 && eqb (word_at l (k + 1)) 0) (eqb (word_at l (k + 2)) 0) t

      first : T (eqb (word_at l k) 0) × T (eqb (word_at l (k + 1)) 0)
      first = both_of (eqb (word_at l k) 0) (eqb (word_at l (k + 1)) 0) last.0

      go : (d : ℕ) → d < 3 → NumberAt (k + d)
      go zero h = moved k (k + 0) (omega arith) (zero_word k first.0)
      go (suc zero) h = zero_word (k + 1) first.1
      go (suc (suc zero)) h = zero_word (k + 2) last.1
      go (suc (suc (suc d))) h = absurd (omega (arith, h))

  of_triple : (count k j d : ℕ) → d < 3 → T (triple_fine l count k j) → NumberAt (k + 3 * j + d)
  of_triple count k j d h t =
      elim (dec_lt j count) [
        | yes g ↦ of_object (k + 3 * j) d h (subst T (sym (counted_triple l count k j g)) t)
        | no g ↦ of_unused (k + 3 * j) d h (subst T (sym (unused_triple l count k j (omega (arith, g)))) t)
      ]

  -- ---- the d-th word of a sector

  of_sector : (i d : ℕ) → d < 27 → T (sector_record_fine l i) → NumberAt (27 * i + d)
  of_sector i d h t = go d h
    where
      bounds : T (within (whole 0) (whole 360) (double_at l (27 * i))) × T (within (whole 0) (whole 360) (double_at l (27 * i + 1))) × T (leb (word_at l (27 * i + 2)) 8)
      bounds = bounds_tests (double_at l (27 * i)) (double_at l (27 * i + 1)) (word_at l (27 * i + 2)) (sector_tests l i t).0

      go : (d : ℕ) → d < 27 → NumberAt (27 * i + d)
      go zero h = moved (27 * i) (27 * i + 0) (omega arith) (left_number (within_range (whole 0) (whole 360) (double_at l (27 * i)) bounds.0).to)
      go (suc zero) h = left_number (within_range (whole 0) (whole 360) (double_at l (27 * i + 1)) bounds.1).to
      go (suc (suc zero)) h = small (27 * i + 2) (leb→le (word_at l (27 * i + 2)) 8 bounds.2)
      go (suc (suc (suc e))) h =
          moved (27 * i + 3 + 3 * (e / 3) + e % 3) (27 * i + suc (suc (suc e))) (omega arith)
          (of_triple (word_at l (27 * i + 2)) (27 * i + 3) (e / 3) (e % 3) (omega arith)
          (first_fine_lem (triple_fine l (word_at l (27 * i + 2)) (27 * i + 3)) 8 (e / 3) (sector_tests l i t).1 (omega (arith, h))))

  past : (k : ℕ) → word_count l ≤ k → word_at l k ≤ 8
  unfolding word_at
  past k h = rw (le-ltb k (word_count l) h) (omega arith)

  inside : T (sectors_fine l) → (k : ℕ) → k < word_count l → k / 27 < sector_count l
  unfolding sectors_fine word_count sector_count
  inside t k h = omega (arith, whole_records_lem 216 36 sector_record_fine l t, h)

  -- a list that passes its check can be read
  pub readable : T (sectors_fine l) → Readable l
  readable t = record { few = sector_count_lem l t; numbers = word }
    where
      word : (k : ℕ) → NumberAt k
      word k =
          elim (dec_lt k (word_count l)) [
            | yes h ↦ moved (27 * (k / 27) + k % 27) k (omega arith) (of_sector (k / 27) (k % 27) (omega arith) (sector_record l t (k / 27) (inside t k h)))
            | no h ↦ small k (past k (omega (arith, h)))
          ]
