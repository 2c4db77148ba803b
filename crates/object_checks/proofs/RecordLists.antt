-- What the tests of a list of records come to, and the loops over its records.
use mathlib.Core.Path.{◌≡◌, refl, sym, ap, ap₂, ◌∙◌}
use mathlib.Core.Bool.{Bool, true, false, ◌&&◌}
use mathlib.Core.Logic.{◌≢◌}
use mathlib.Core.List.{List}
use Prim.Native.Nat.{ℕ, zero, suc, min, ◌+◌, ◌-◌, ◌*◌, ◌/◌, ◌%◌, ◌≤◌, ◌<◌}
use native.Mathlib.Omega.{arith}
use borrow.Author.Tests.{eq-eqb, ne_eqb, le-leb, lt-leb, lt-ltb, le-ltb}
use lib.Dec.{eqb}
use Rattle.std.proofs.Math.Bool.{and-true}
use lib.ListN.{length}
use Rattle.words.specs.Lists.{first_fine}
use Rattle.words.specs.Words.{word_at}
use Rattle.object_checks.specs.Checks.{records_fine, object_fine, object_unused, triple_fine, counted_fine, words_zero}

module _ (size most : ℕ) (fine : List ℕ → ℕ → Bool) (l : List ℕ) where
  pub part_record : length l % size ≢ 0 → false ≡ records_fine size most fine l
  unfolding records_fine
  part_record h = rw (ne_eqb _ _ h)

  pub too_long : length l % size ≡ 0 → most * size < length l → false ≡ records_fine size most fine l
  unfolding records_fine
  too_long e h = rw (eq-eqb _ _ e, lt-leb _ _ h)

  pub all_records : (n : ℕ) → length l % size ≡ 0 → length l ≤ most * size → n ≡ length l / size → first_fine (fine l) n ≡ records_fine size most fine l
  unfolding records_fine
  all_records n e h g = rw (eq-eqb _ _ e, le-leb _ _ h, g)

module _ (l : List ℕ) (count k j : ℕ) where
  pub counted_triple : j < count → object_fine l (k + 3 * j) ≡ triple_fine l count k j
  unfolding triple_fine
  counted_triple h = rw (lt-ltb _ _ h)

  pub unused_triple : count ≤ j → object_unused l (k + 3 * j) ≡ triple_fine l count k j
  unfolding triple_fine
  unused_triple h = rw (le-ltb _ _ h)

-- ---- the triples of a sector: the counted ones, then words that are zero

both_swapped : (a b c : Bool) → a && (b && c) ≡ b && (a && c)
both_swapped true b c = refl
both_swapped false true c = refl
both_swapped false false c = refl

three_turned : (a b c rest : Bool) → ((a && b) && c) && rest ≡ c && (b && (a && rest))
three_turned true b c rest = turned b c rest
  where
    turned : (b c rest : Bool) → (b && c) && rest ≡ c && (b && rest)
    turned true c rest = refl
    turned false true rest = refl
    turned false false rest = refl
three_turned false true true rest = refl
three_turned false true false rest = refl
three_turned false false true rest = refl
three_turned false false false rest = refl

alike : (f g : ℕ → Bool) (n : ℕ) → ((j : ℕ) → j < n → f j ≡ g j) → first_fine f n ≡ first_fine g n
unfolding first_fine
alike f g zero h = refl
alike f g (suc n) h = ap₂ ◌&&◌ (h n (omega arith)) (alike f g n (λ j k. h j (omega (arith, k))))

module _ (l : List ℕ) (k : ℕ) where
  same_word : (i j : ℕ) → i ≡ j → eqb (word_at l i) 0 ≡ eqb (word_at l j) 0
  same_word i j e = ap (λ (a : ℕ). eqb (word_at l a) 0) e

  -- one unused triple more is three words more that are zero
  unused_more : (n m t : ℕ) → t ≡ n + m → object_unused l (k + 3 * t) && words_zero l (k + 3 * n) (3 * m) ≡ words_zero l (k + 3 * n) (3 * suc m)
  unfolding object_unused words_zero first_fine
  unused_more n m t e =
      let three : suc (suc (suc (3 * m))) ≡ 3 * suc m = omega arith in
      three_turned (eqb (word_at l (k + 3 * t)) 0) (eqb (word_at l (k + 3 * t + 1)) 0) (eqb (word_at l (k + 3 * t + 2)) 0) (words_zero l (k + 3 * n) (3 * m))
      ∙ ap₂ ◌&&◌ (same_word _ (k + 3 * n + suc (suc (3 * m))) (omega (arith, e)))
      (ap₂ ◌&&◌ (same_word _ (k + 3 * n + suc (3 * m)) (omega (arith, e)))
      (ap (λ (b : Bool). b && words_zero l (k + 3 * n) (3 * m)) (same_word _ (k + 3 * n + 3 * m) (omega (arith, e)))))
      ∙ ap (words_zero l (k + 3 * n)) three

  -- t of the eight triples, of which n are counted
  parted : (f : ℕ → Bool) (n m t : ℕ) → t ≡ n + m → t ≤ 8 → ((j : ℕ) → j < n → object_fine l (k + 3 * j) ≡ f j)
      → ((j : ℕ) → n ≤ j → j < 8 → object_unused l (k + 3 * j) ≡ f j) → counted_fine l k n && words_zero l (k + 3 * n) (3 * m) ≡ first_fine f t
  unfolding counted_fine words_zero first_fine
  parted f n zero t e few h g =
      let all : n ≡ t = omega (arith, e) in
      and-true (counted_fine l k n) ∙ alike (λ (j : ℕ). object_fine l (k + 3 * j)) f n h ∙ ap (first_fine f) all
  parted f n (suc m) zero e few h g = absurd (omega (arith, e))
  parted f n (suc m) (suc t) e few h g =
      let rest : t ≡ n + m = omega (arith, e) in
      ap (λ (b : Bool). counted_fine l k n && b) (sym (unused_more n m t rest))
      ∙ both_swapped (counted_fine l k n) (object_unused l (k + 3 * t)) (words_zero l (k + 3 * n) (3 * m))
      ∙ ap₂ ◌&&◌ (g t (omega (arith, e)) few) (parted f n m t rest (omega (arith, few)) h g)

  pub triples_parted : (count n rest : ℕ) → n ≡ min count 8 → rest ≡ 24 - 3 * n
      → counted_fine l k n && words_zero l (k + 3 * n) rest ≡ first_fine (triple_fine l count k) 8
  triples_parted count n rest e r =
      let words : rest ≡ 3 * (8 - n) = omega (arith, e, r) in
      ap (λ (m : ℕ). counted_fine l k n && words_zero l (k + 3 * n) m) words
      ∙ parted (triple_fine l count k) n (8 - n) 8 (omega (arith, e)) (omega arith)
      (λ j h. counted_triple l count k j (omega (arith, e, h))) (λ j h g. unused_triple l count k j (omega (arith, e, h, g)))
