-- Words as the library's arrays of eight bytes: `from_le_bytes` and `to_le_bytes` count as `number` and `bytes_of` do.
use mathlib.Core.Path.{◌≡◌, refl, sym, ◌∙◌, ap}
use mathlib.Core.List.{List, []}
use Prim.Native.Nat.{ℕ, zero, suc, ◌+◌, ◌*◌, ◌<◌}
use native.Mathlib.Numerals.{towards_suc}
use native.Mathlib.Nat.{div-div-eq-div-mul}
use native.Mathlib.Omega.{arith}
use lib.ListN.{get_or, take, drop}
use lib.Seq.{drop-drop}
use Rattle.std.proofs.Common.{w64, lit<}
use Rattle.std.proofs.lemmas.List.{get_or-take, get_or-drop}
use Rattle.std.specs.Int.{from_le_bytes, to_le_bytes}
use Rattle.std.specs.Simd.{first_chunks}
use Rattle.words.specs.Words.{number, bytes_of, word_count, put_word}
use Rattle.words.proofs.Stores.{stored_part}
use Rattle.words.proofs.Laws.{length_bytes_of, put_word_in, room}
use borrow.Rule.Slice.PartMut.{put_mid}

chunk : (count : ℕ) (l : List ℕ) (k : ℕ) → k < count → get_or (first_chunks 8 count l) k [] ≡ take 8 (drop (8 * k) l)
chunk zero l k h = absurd (omega arith)
chunk (suc n) l zero h = refl
chunk (suc n) l (suc k) h =
    let e : 8 + 8 * k ≡ 8 * suc k = omega arith in
    chunk n (drop 8 l) k (omega arith) ∙ ap (take 8) (drop-drop (8 * k) 8 l ∙ ap (λ (a : ℕ). drop a l) e)

from_bytes : (bs l : List ℕ) (a : ℕ) → ((i : ℕ) → i < 8 → get_or bs i 0 ≡ get_or l (a + i) 0) → from_le_bytes w64 bs ≡ number l a 8
unfolding number
from_bytes bs l a h =
    rw (h 0 (lit< tt), h 1 (lit< tt), h 2 (lit< tt), h 3 (lit< tt), h 4 (lit< tt), h 5 (lit< tt), h 6 (lit< tt), h 7 (lit< tt))
    (simp towards_suc (omega arith))

pub word_of_chunk : (count : ℕ) (l : List ℕ) (k : ℕ) → k < count
    → from_le_bytes w64 (get_or (first_chunks 8 count l) k []) ≡ number l (8 * k) 8
word_of_chunk count l k h =
    ap (from_le_bytes w64) (chunk count l k h)
    ∙ from_bytes (take 8 (drop (8 * k) l)) l (8 * k) (λ i j. get_or-take 8 (drop (8 * k) l) i 0 j ∙ get_or-drop (8 * k) l i 0)

pub eight_bytes : (w : ℕ) → to_le_bytes w64 w ≡ bytes_of 8 w
unfolding bytes_of
eight_bytes w = simp div-div-eq-div-mul

-- those eight bytes in the place of the k-th eight
pub stored_chunk : (l ys : List ℕ) (k w n : ℕ) → k < word_count l → n ≡ 8 → ys ≡ bytes_of 8 w → put_mid (8 * k) n l ys ≡ put_word l k w
stored_chunk l ys k w n h e f =
    stored_part l (8 * k) n ys (bytes_of 8 w) (rw length_bytes_of (room l k h)) (rw length_bytes_of e) f ∙ sym (put_word_in l k w h)
