-- Doubles stored one behind the other, as a record is: they are read back, all else stays as it was, and their bytes stand one behind
-- the other. Assumes nothing.
use mathlib.Core.Path.{◌≡◌, refl, sym, ap, ap₂, ◌∙◌}
use mathlib.Core.Logic.{◌≢◌}
use mathlib.Core.List.{List, [], ◌∷◌}
use Prim.Native.Nat.{ℕ, zero, suc, ◌+◌, ◌*◌, ◌/◌, ◌≤◌, ◌<◌}
use native.Mathlib.Omega.{arith}
use lib.ListN.{length, get_or, length-append}
use lib.Seq.{sets}
use lib.Dec.{T}
use lib.Ieee.{Float, binary64, fits}
use Rattle.words.specs.Words.{bytes_of_double, bytes_of_doubles, word_count, double_at, put_double}
use Rattle.words.proofs.Stores.{sets_append}
use Rattle.words.proofs.Laws.{length_double, put_double_in, length_put_double, word_count_put_double, byte_put_double, other_double, stored_double}

-- from the k-th word on
unfoldable pub put_doubles : List ℕ → ℕ → List Float → List ℕ
put_doubles l k [] = l
put_doubles l k (x ∷ xs) = put_doubles (put_double l k x) (suc k) xs

-- all of them are doubles
abbrev pub AllFit : List Float → Type 0
AllFit [] = Unit
AllFit (x ∷ xs) = T (fits binary64 x) × AllFit xs

-- a word that none of n from the k-th on is
abbrev pub Outside : ℕ → ℕ → ℕ → Type 0
Outside k n j = (i : ℕ) → i < n → j ≢ k + i

-- ---- what they keep

pub length_put_doubles : (xs : List Float) (l : List ℕ) (k : ℕ) → length (put_doubles l k xs) ≡ length l
unfolding put_doubles
length_put_doubles [] l k = refl
length_put_doubles (x ∷ xs) l k = length_put_doubles xs (put_double l k x) (suc k) ∙ length_put_double l k x

pub word_count_put_doubles : (xs : List Float) (l : List ℕ) (k : ℕ) → word_count (put_doubles l k xs) ≡ word_count l
unfolding word_count
word_count_put_doubles xs l k = ap (λ (n : ℕ). n / 8) (length_put_doubles xs l k)

pub byte_put_doubles : (xs : List Float) (l : List ℕ) (k j : ℕ) → Outside k (length xs) (j / 8) → get_or (put_doubles l k xs) j 0 ≡ get_or l j 0
unfolding put_doubles
byte_put_doubles [] l k j o = refl
byte_put_doubles (x ∷ xs) l k j o =
    byte_put_doubles xs (put_double l k x) (suc k) j (λ i b e. o (suc i) (omega (arith, b)) (omega (arith, e)))
    ∙ byte_put_double l k x j (λ e. o 0 (omega arith) (omega (arith, e)))

pub double_put_doubles : (xs : List Float) (l : List ℕ) (k j : ℕ) → Outside k (length xs) j → double_at (put_doubles l k xs) j ≡ double_at l j
unfolding put_doubles
double_put_doubles [] l k j o = refl
double_put_doubles (x ∷ xs) l k j o =
    double_put_doubles xs (put_double l k x) (suc k) j (λ i b e. o (suc i) (omega (arith, b)) (omega (arith, e)))
    ∙ other_double l k x j (λ e. o 0 (omega arith) (omega (arith, e)))

-- ---- they are read back

pub stored_doubles : (xs : List Float) (l : List ℕ) (k : ℕ) (d : Float) → k + length xs ≤ word_count l → AllFit xs → (i : ℕ) → i < length xs
    → double_at (put_doubles l k xs) (k + i) ≡ get_or xs i d
unfolding put_doubles
stored_doubles [] l k d room f i b = absurd (omega arith)
stored_doubles (x ∷ xs) l k d room f zero b =
    let e : k + 0 ≡ k = omega arith in
    ap (double_at (put_doubles (put_double l k x) (suc k) xs)) e
    ∙ double_put_doubles xs (put_double l k x) (suc k) k (λ i b e. omega (arith, e)) ∙ stored_double l k x (omega (arith, room)) f.0
stored_doubles (x ∷ xs) l k d room f (suc i) b =
    let e : k + suc i ≡ suc k + i = omega arith in
    ap (double_at (put_doubles (put_double l k x) (suc k) xs)) e
    ∙ stored_doubles xs (put_double l k x) (suc k) d (omega (arith, room, word_count_put_double l k x)) f.1 i (omega (arith, b))

-- ---- their bytes

pub length_doubles : (xs : List Float) → length (bytes_of_doubles xs) ≡ 8 * length xs
unfolding bytes_of_doubles
length_doubles [] = refl
length_doubles (x ∷ xs) = length-append (bytes_of_double x) (bytes_of_doubles xs) ∙ omega (arith, length_double x, length_doubles xs)

pub put_doubles_in : (xs : List Float) (l : List ℕ) (k : ℕ) → k + length xs ≤ word_count l → put_doubles l k xs ≡ sets l (8 * k) (bytes_of_doubles xs)
unfolding put_doubles bytes_of_doubles
put_doubles_in [] l k room = refl
put_doubles_in (x ∷ xs) l k room =
    let p : 8 * suc k ≡ 8 * k + length (bytes_of_double x) = omega (arith, length_double x) in
    put_doubles_in xs (put_double l k x) (suc k) (omega (arith, room, word_count_put_double l k x))
    ∙ ap₂ (λ (m : List ℕ) (n : ℕ). sets m n (bytes_of_doubles xs)) (put_double_in l k x (omega (arith, room))) p
    ∙ sym (sets_append l (8 * k) (bytes_of_double x) (bytes_of_doubles xs))
