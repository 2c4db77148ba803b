-- Words of eight bytes, and doubles, in a list of bytes, least byte first.
use Rattle.std.specs.Prelude.{cond, List, [], ◌∷◌, ◌++◌, ℕ, zero, suc, ◌+◌, ◌*◌, ◌/◌, ◌%◌, ltb, length, get_or, Float}
use Rattle.std.proofs.lemmas.List.Edits.{sets}
use Rattle.std.specs.Float.{binary64}
use Rattle.std.specs.Float.Ieee.{of_bits, to_bits}

-- the number whose n bytes, least first, stand in l from place a on
unfoldable pub number : List ℕ → ℕ → ℕ → ℕ
number l a zero = 0
number l a (suc n) = get_or l a 0 + 256 * number l (suc a) n

-- the n lowest bytes of w, least first
unfoldable pub bytes_of : ℕ → ℕ → List ℕ
bytes_of zero w = []
bytes_of (suc n) w = w % 256 ∷ bytes_of n (w / 256)

-- the eight bytes of a double: `nan` is 7FF8000000000000
unfoldable pub bytes_of_double : Float → List ℕ
bytes_of_double x = bytes_of 8 (to_bits binary64 x)

-- those of doubles, one behind the other
unfoldable pub bytes_of_doubles : List Float → List ℕ
bytes_of_doubles [] = []
bytes_of_doubles (x ∷ xs) = bytes_of_double x ++ bytes_of_doubles xs

-- how many whole words l has: a part word at the end counts for nothing
unfoldable pub word_count : List ℕ → ℕ
word_count l = length l / 8

-- the k-th word, counted from 0, and 0 where there is no such whole word
unfoldable pub word_at : List ℕ → ℕ → ℕ
word_at l k = cond (ltb k (word_count l)) (number l (8 * k) 8) 0

-- l with w as its k-th word, and l itself where there is no such whole word
unfoldable pub put_word : List ℕ → ℕ → ℕ → List ℕ
put_word l k w = cond (ltb k (word_count l)) (sets l (8 * k) (bytes_of 8 w)) l

-- the double whose bits are the k-th word: each NaN pattern is read as `nan`
unfoldable pub double_at : List ℕ → ℕ → Float
double_at l k = of_bits binary64 (word_at l k)

-- l with the bits of x as its k-th word: `nan` is written 7FF8000000000000
unfoldable pub put_double : List ℕ → ℕ → Float → List ℕ
put_double l k x = put_word l k (to_bits binary64 x)
