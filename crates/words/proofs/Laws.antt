-- Laws of words and doubles in a list of bytes: what is stored is read back, all else stays as it was, and a part word counts for nothing.
use mathlib.Core.Path.{◌≡◌, refl, sym, ◌∙◌, ap}
use mathlib.Core.Logic.{◌≢◌}
use mathlib.Core.List.{List, ◌++◌}
use Prim.Native.Nat.{ℕ, zero, suc, ◌+◌, ◌*◌, ◌/◌, ◌%◌, ◌^◌, ◌≤◌, ◌<◌}
use native.Mathlib.Nat.{mod-eq_of_lt, mod-one, pow-suc}
use native.Mathlib.Decide.{dec_lt}
use native.Mathlib.Omega.{arith}
use borrow.Author.Tests.{lt-ltb, le-ltb}
use lib.Dec.{T, ltb, lit<}
use lib.ListN.{length, get_or, set, length-set, length-append, get_or-append}
use lib.Seq.{sets, get_or-set_same}
use lib.Ieee.{Float, nan, fits, binary64, of_bits, to_bits}
use lib.Ieee.Bits.{of_bits-to_bits, to_bits-lt}
use Rattle.words.specs.Words.{number, bytes_of, bytes_of_double, word_count, word_at, put_word, double_at, put_double}
use Rattle.words.proofs.Bases.{cut_lowest}
use Rattle.words.proofs.Stores.{get_d_sets_before, length_tested, before_tested, behind_tested}
use Rattle.words.proofs.Patterns.{nan_pattern}

-- ---- numbers of n bytes

pub length_bytes_of : (n w : ℕ) → length (bytes_of n w) ≡ n
unfolding bytes_of
length_bytes_of zero w = refl
length_bytes_of (suc n) w = ap suc (length_bytes_of n (w / 256))

-- a number goes by its own bytes alone
number_same : (l m : List ℕ) (a n : ℕ) → ((j : ℕ) → a ≤ j → j < a + n → get_or l j 0 ≡ get_or m j 0) → number l a n ≡ number m a n
unfolding number
number_same l m a zero h = refl
number_same l m a (suc n) h =
    let e : get_or l a 0 ≡ get_or m a 0 = h a (omega arith) (omega arith) in
    rw (e, number_same l m (suc a) n (λ j p q. h j (omega arith) (omega arith)))

-- the stored bytes of w are read back as w, as far as n bytes hold it
number_sets : (l : List ℕ) (a n w : ℕ) → a + n ≤ length l → number (sets l a (bytes_of n w)) a n ≡ w % 256 ^ n
unfolding number bytes_of
number_sets l a zero w h = sym (mod-one w)
number_sets l a (suc n) w h =
    let p : length (set l a (w % 256)) ≡ length l = length-set l a (w % 256) in
    let b : get_or (sets (set l a (w % 256)) (suc a) (bytes_of n (w / 256))) a 0 ≡ w % 256 =
    get_d_sets_before (set l a (w % 256)) a (suc a) (bytes_of n (w / 256)) (omega arith) ∙ get_or-set_same l a (w % 256) 0 (omega arith) in
    let r : number (sets (set l a (w % 256)) (suc a) (bytes_of n (w / 256))) (suc a) n ≡ w / 256 % 256 ^ n =
    number_sets (set l a (w % 256)) (suc a) n (w / 256) (omega arith) in
    let s : w % 256 ^ suc n ≡ w / 256 % 256 ^ n * 256 + w % 256 = cut_lowest 256 (lit< tt) n w in
    omega arith

number_below : (l : List ℕ) → ((j : ℕ) → get_or l j 0 < 256) → (a n : ℕ) → number l a n < 256 ^ n
unfolding number
number_below l h a zero = lit< tt
number_below l h a (suc n) = rw (pow-suc 256 n) (omega (arith, h a, number_below l h (suc a) n))

-- ---- the four definitions at a word that is there, and at one that is not

module _ (l : List ℕ) (k : ℕ) where
  pub word_in : k < word_count l → word_at l k ≡ number l (8 * k) 8
  unfolding word_at
  word_in h = rw (lt-ltb _ _ h)

  pub word_out : word_count l ≤ k → word_at l k ≡ 0
  unfolding word_at
  word_out h = rw (le-ltb _ _ h)

  pub put_word_in : (w : ℕ) → k < word_count l → put_word l k w ≡ sets l (8 * k) (bytes_of 8 w)
  unfolding put_word
  put_word_in w h = rw (lt-ltb _ _ h)

  pub put_word_out : (w : ℕ) → word_count l ≤ k → put_word l k w ≡ l
  unfolding put_word
  put_word_out w h = rw (le-ltb _ _ h)

-- a word that is there has all its bytes
pub room : (l : List ℕ) (k : ℕ) → k < word_count l → 8 * k + 8 ≤ length l
unfolding word_count
room l k h = omega arith

-- a word goes by its own bytes alone
pub word_same : (l m : List ℕ) (k : ℕ) → word_count l ≡ word_count m
    → (k < word_count m → (j : ℕ) → j / 8 ≡ k → get_or l j 0 ≡ get_or m j 0) → word_at l k ≡ word_at m k
word_same l m k e h = elim (dec_lt k (word_count m)) [
  | no n ↦ rw (word_out l k (omega arith), word_out m k (omega arith))
  | yes i ↦ rw (word_in l k (omega arith), word_in m k i) (number_same l m (8 * k) 8 (λ j p q. h i j (omega arith)))
]

-- ---- what a store keeps

pub length-put_word : (l : List ℕ) (k w : ℕ) → length (put_word l k w) ≡ length l
unfolding put_word
length-put_word l k w = length_tested (ltb k (word_count l)) l (8 * k) (bytes_of 8 w)

pub word_count-put_word : (l : List ℕ) (k w : ℕ) → word_count (put_word l k w) ≡ word_count l
unfolding word_count
word_count-put_word l k w = rw length-put_word

-- a byte outside the word stays as it was
pub byte_put_word : (l : List ℕ) (k w j : ℕ) → j / 8 ≢ k → get_or (put_word l k w) j 0 ≡ get_or l j 0
unfolding put_word
byte_put_word l k w j o = elim (dec_lt j (8 * k)) [
  | yes h ↦ before_tested (ltb k (word_count l)) l (8 * k) (bytes_of 8 w) j h
  | no h ↦ behind_tested (ltb k (word_count l)) l (8 * k) (bytes_of 8 w) j (rw length_bytes_of (omega arith))
]

-- and so does every other word
pub other_word : (l : List ℕ) (k w j : ℕ) → j ≢ k → word_at (put_word l k w) j ≡ word_at l j
other_word l k w j o = word_same (put_word l k w) l j (word_count-put_word l k w) (λ h i e. byte_put_word l k w i (omega arith))

-- ---- what is stored is read back

-- as far as 64 bits hold it
pub stored_low : (l : List ℕ) (k w : ℕ) → k < word_count l → word_at (put_word l k w) k ≡ w % 2 ^ 64
stored_low l k w h =
    word_in (put_word l k w) k (rw word_count-put_word h)
    ∙ ap (λ (m : List ℕ). number m (8 * k) 8) (put_word_in l k w h)
    ∙ number_sets l (8 * k) 8 w (room l k h)

pub stored_word : (l : List ℕ) (k w : ℕ) → k < word_count l → w < 2 ^ 64 → word_at (put_word l k w) k ≡ w
stored_word l k w h f = stored_low l k w h ∙ mod-eq_of_lt f

-- a word of bytes is a number of 64 bits
pub word_below : (l : List ℕ) (k : ℕ) → ((j : ℕ) → get_or l j 0 < 256) → word_at l k < 2 ^ 64
word_below l k h = elim (dec_lt k (word_count l)) [
  | yes i ↦ rw (word_in l k i) (number_below l h (8 * k) 8)
  | no n ↦ rw (word_out l k (omega arith)) (lit< tt)
]

-- ---- a part word counts for nothing

module _ (l e : List ℕ) (whole : length l % 8 ≡ 0) (part : length e < 8) where
  pub part_word_count : word_count (l ++ e) ≡ word_count l
  unfolding word_count
  part_word_count = rw length-append (omega arith)

  pub part_word_at : (k : ℕ) → word_at (l ++ e) k ≡ word_at l k
  part_word_at k = word_same (l ++ e) l k part_word_count (λ h j i. get_or-append l e 0 j (omega (arith, room l k h)))

  pub part_double_at : (k : ℕ) → double_at (l ++ e) k ≡ double_at l k
  unfolding double_at
  part_double_at k = ap (of_bits binary64) (part_word_at k)

-- ---- the same for doubles

pub length_double : (x : Float) → length (bytes_of_double x) ≡ 8
unfolding bytes_of_double
length_double x = length_bytes_of 8 (to_bits binary64 x)

-- a double goes by its own bytes alone
pub double_same : (l m : List ℕ) (k : ℕ) → word_count l ≡ word_count m → (k < word_count m → (j : ℕ) → j / 8 ≡ k → get_or l j 0 ≡ get_or m j 0)
    → double_at l k ≡ double_at m k
unfolding double_at
double_same l m k e h = ap (of_bits binary64) (word_same l m k e h)

module _ (l : List ℕ) (k : ℕ) (x : Float) where
  pub put_double_in : k < word_count l → put_double l k x ≡ sets l (8 * k) (bytes_of_double x)
  unfolding put_double bytes_of_double
  put_double_in h = put_word_in l k (to_bits binary64 x) h

  pub length_put_double : length (put_double l k x) ≡ length l
  unfolding put_double
  length_put_double = length-put_word l k (to_bits binary64 x)

  pub word_count_put_double : word_count (put_double l k x) ≡ word_count l
  unfolding put_double
  word_count_put_double = word_count-put_word l k (to_bits binary64 x)

  pub byte_put_double : (j : ℕ) → j / 8 ≢ k → get_or (put_double l k x) j 0 ≡ get_or l j 0
  unfolding put_double
  byte_put_double = byte_put_word l k (to_bits binary64 x)

  pub other_double : (j : ℕ) → j ≢ k → double_at (put_double l k x) j ≡ double_at l j
  unfolding double_at put_double
  other_double j o = ap (of_bits binary64) (other_word l k (to_bits binary64 x) j o)

  pub stored_double : k < word_count l → T (fits binary64 x) → double_at (put_double l k x) k ≡ x
  unfolding double_at put_double
  stored_double h f =
      ap (of_bits binary64) (stored_word l k (to_bits binary64 x) h (to_bits-lt binary64 x f)) ∙ of_bits-to_bits binary64 x f

-- a NaN is stored as the one pattern
pub stored_nan : (l : List ℕ) (k : ℕ) → k < word_count l → word_at (put_double l k nan) k ≡ 0x7FF8_0000_0000_0000
unfolding put_double
stored_nan l k h = ap (λ (w : ℕ). word_at (put_word l k w) k) nan_pattern ∙ stored_word l k 0x7FF8_0000_0000_0000 h (lit< tt)
