-- Records of totals in a list: how long they are, that one is stored among the others, and that each is read back. Assumes nothing.
use mathlib.Core.Path.{◌≡◌, refl, sym, ap, ap₂, ◌∙◌, subst}
use mathlib.Core.Logic.{◌≢◌}
use mathlib.Core.List.{List, ◌++◌, append_assoc}
use Prim.Native.Nat.{ℕ, zero, suc, ◌+◌, ◌-◌, ◌*◌, ◌^◌, ◌≤◌, ◌<◌}
use native.Mathlib.Omega.{arith}
use lib.ListN.{length, drop, length-append}
use lib.Seq.{sets, sets-eq, take_at, drop_at}
use lib.Ieee.{Float}
use Rattle.doubles.specs.Order.{Fits}
use Rattle.words.specs.Words.{bytes_of, bytes_of_double, word_count, word_at, double_at, put_word, put_double}
use Rattle.words.proofs.Stores.{sets_append, sets_again, sets_comm}
use Rattle.words.proofs.Laws.{length_bytes_of, put_word_in, word_count-put_word, other_word, stored_word, length_double, put_double_in, word_count_put_double, other_double, stored_double, length-put_word, length_put_double}
use Rattle.jobs.specs.declared.answers.Totals.{Totals}
use Rattle.jobs.specs.Totals.{totals_bytes, totals_at, put_totals, totals_records}

-- ---- lengths

pub length_record : (t : Totals) → length (totals_bytes t) ≡ 24
unfolding totals_bytes
length_record t =
    let doubles : length (bytes_of_double t.largest ++ bytes_of_double t.sum) ≡ 16 =
    length-append (bytes_of_double t.largest) (bytes_of_double t.sum) ∙ omega (arith, length_double t.largest, length_double t.sum) in
    length-append (bytes_of 8 t.count) (bytes_of_double t.largest ++ bytes_of_double t.sum) ∙ omega (arith, length_bytes_of 8 t.count, doubles)

pub length_records : (f : ℕ → Totals) (n k : ℕ) → length (totals_records f n k) ≡ 24 * n
unfolding totals_records
length_records f zero k = refl
length_records f (suc n) k =
    length-append (totals_bytes (f k)) (totals_records f n (k + 1)) ∙ omega (arith, length_record (f k), length_records f n (k + 1))

-- ---- a record stored

module _ (l : List ℕ) (k : ℕ) (t : Totals) where
  pub length_put_totals : length (put_totals l k t) ≡ length l
  unfolding put_totals
  length_put_totals = length_put_double _ _ _ ∙ length_put_double _ _ _ ∙ length-put_word l (3 * k) t.count

  -- its bytes, one behind the other
  pub put_record : 24 * k + 24 ≤ length l → put_totals l k t ≡ sets l (24 * k) (totals_bytes t)
  unfolding put_totals totals_bytes word_count
  put_record h =
      let one : List ℕ = put_word l (3 * k) t.count in
      let two : List ℕ = put_double one (3 * k + 1) t.largest in
      let largest : List ℕ = bytes_of_double t.largest in
      let sum : List ℕ = bytes_of_double t.sum in
      let long1 : length one ≡ length l = length-put_word l (3 * k) t.count in
      let long2 : length two ≡ length one = length_put_double one (3 * k + 1) t.largest in
      let a : 8 * (3 * k) ≡ 24 * k = omega arith in
      let b : 8 * (3 * k + 1) ≡ 24 * k + length (bytes_of 8 t.count) = omega (arith, length_bytes_of 8 t.count) in
      let c : 8 * (3 * k + 2) ≡ 24 * k + length (bytes_of 8 t.count) + length largest = omega (arith, length_bytes_of 8 t.count, length_double t.largest) in
      put_double_in two (3 * k + 2) t.sum (omega (arith, h, long1, long2))
      ∙ ap₂ (λ (m : List ℕ) (n : ℕ). sets m n sum) (put_double_in one (3 * k + 1) t.largest (omega (arith, h, long1))) c
      ∙ ap₂ (λ (m : List ℕ) (n : ℕ). sets (sets m n largest) (24 * k + length (bytes_of 8 t.count) + length largest) sum) (put_word_in l (3 * k) t.count (omega (arith, h)) ∙ ap (λ (n : ℕ). sets l n (bytes_of 8 t.count)) a) b
      ∙ sym (sets_append (sets l (24 * k) (bytes_of 8 t.count)) (24 * k + length (bytes_of 8 t.count)) largest sum)
      ∙ sym (sets_append l (24 * k) (bytes_of 8 t.count) (largest ++ sum))

-- whole numbers of 64 bits, and doubles
pub record TotalsFit (t : Totals) : Type 0 where
  pub count : t.count < 2 ^ 64
  pub largest : Fits t.largest
  pub sum : Fits t.sum

-- it is read back
pub stored_totals : (l : List ℕ) (k : ℕ) (t : Totals) → 24 * k + 24 ≤ length l → TotalsFit t → totals_at (put_totals l k t) k ≡ t
unfolding totals_at put_totals
stored_totals l k t h f =
    let one : List ℕ = put_word l (3 * k) t.count in
    let two : List ℕ = put_double one (3 * k + 1) t.largest in
    let words : 3 * k + 3 ≤ word_count l = unfold word_count in omega (arith, h) in
    let words1 : word_count one ≡ word_count l = word_count-put_word l (3 * k) t.count in
    let words2 : word_count two ≡ word_count one = word_count_put_double one (3 * k + 1) t.largest in
    let count : word_at (put_double two (3 * k + 2) t.sum) (3 * k) ≡ t.count =
    other_put two (3 * k + 2) t.sum (3 * k) (omega arith) ∙ other_put one (3 * k + 1) t.largest (3 * k) (omega arith)
    ∙ stored_word l (3 * k) t.count (omega (arith, words)) f.count in
    let largest : double_at (put_double two (3 * k + 2) t.sum) (3 * k + 1) ≡ t.largest =
    other_double two (3 * k + 2) t.sum (3 * k + 1) (omega arith)
    ∙ stored_double one (3 * k + 1) t.largest (omega (arith, words, words1)) f.largest.holds in
    let sum : double_at (put_double two (3 * k + 2) t.sum) (3 * k + 2) ≡ t.sum =
    stored_double two (3 * k + 2) t.sum (omega (arith, words, words1, words2)) f.sum.holds in
    λ i. record { count = count i; largest = largest i; sum = sum i }
  where
    other_put : (m : List ℕ) (j : ℕ) (x : Float) (n : ℕ) → n ≢ j → word_at (put_double m j x) n ≡ word_at m n
    other_put m j x n o = unfold put_double in other_word m j _ n o

-- ---- two stored

-- a record over another one at the same place
pub put_again : (l : List ℕ) (k : ℕ) (t u : Totals) → 24 * k + 24 ≤ length l → put_totals (put_totals l k t) k u ≡ put_totals l k u
put_again l k t u h =
    put_record (put_totals l k t) k u (omega (arith, h, length_put_totals l k t))
    ∙ ap (λ (m : List ℕ). sets m (24 * k) (totals_bytes u)) (put_record l k t h)
    ∙ sets_again l (24 * k) (totals_bytes t) (totals_bytes u) (length_record t ∙ sym (length_record u)) ∙ sym (put_record l k u h)

-- two at different places, in either order
pub put_swapped : (l : List ℕ) (j k : ℕ) (t u : Totals) → j < k → 24 * k + 24 ≤ length l → put_totals (put_totals l j t) k u ≡ put_totals (put_totals l k u) j t
put_swapped l j k t u b h =
    put_record (put_totals l j t) k u (omega (arith, h, length_put_totals l j t))
    ∙ ap (λ (m : List ℕ). sets m (24 * k) (totals_bytes u)) (put_record l j t (omega (arith, h, b)))
    ∙ sets_comm l (24 * j) (24 * k) (totals_bytes t) (totals_bytes u) (omega (arith, b, length_record t))
    ∙ ap (λ (m : List ℕ). sets m (24 * j) (totals_bytes t)) (sym (put_record l k u h))
    ∙ sym (put_record (put_totals l k u) j t (omega (arith, h, b, length_put_totals l k u)))

-- ---- records one behind the other

-- they are the same where their totals are
pub records_same : (f g : ℕ → Totals) (n j : ℕ) → ((i : ℕ) → i < n → f (j + i) ≡ g (j + i)) → totals_records f n j ≡ totals_records g n j
unfolding totals_records
records_same f g zero j h = refl
records_same f g (suc n) j h =
    let e : j + 0 ≡ j = omega arith in
    let here : f j ≡ g j = subst (λ (m : ℕ). f m ≡ g m) e (h 0 (omega arith)) in
    let next : (i : ℕ) → i < n → f (j + 1 + i) ≡ g (j + 1 + i) =
    λ i l. let s : j + suc i ≡ j + 1 + i = omega arith in subst (λ (m : ℕ). f m ≡ g m) s (h (suc i) (omega (arith, l))) in
    ap₂ (λ (t : Totals) (r : List ℕ). totals_bytes t ++ r) here (records_same f g n (j + 1) next)

-- in two parts
records_parted : (f : ℕ → Totals) (m n j : ℕ) → totals_records f (m + n) j ≡ totals_records f m j ++ totals_records f n (j + m)
unfolding totals_records
records_parted f zero n j = let a : 0 + n ≡ n = omega arith in let b : j ≡ j + 0 = omega arith in ap₂ (totals_records f) a b
records_parted f (suc m) n j =
    let a : suc m + n ≡ suc (m + n) = omega arith in
    let b : j + 1 + m ≡ j + suc m = omega arith in
    ap (λ (k : ℕ). totals_records f k j) a
    ∙ ap (λ (l : List ℕ). totals_bytes (f j) ++ l) (records_parted f m n (j + 1) ∙ ap (λ (k : ℕ). totals_records f m (j + 1) ++ totals_records f n k) b)
    ∙ sym (append_assoc (totals_bytes (f j)) (totals_records f m (j + 1)) (totals_records f n (j + suc m)))

-- ---- one among others

module _ (f : ℕ → Totals) (n : ℕ) (rest : List ℕ) (k : ℕ) (h : k < n) where
  whole_length : length (totals_records f n 0 ++ rest) ≡ 24 * n + length rest
  whole_length = length-append (totals_records f n 0) rest ∙ ap (λ (m : ℕ). m + length rest) (length_records f n 0)

  room : 24 * k + 24 ≤ length (totals_records f n 0 ++ rest)
  room = omega (arith, whole_length, h)

  -- those before it, its own bytes, and those behind
  around : (g : ℕ → Totals) → totals_records g n 0 ++ rest ≡ totals_records g k 0 ++ (totals_bytes (g k) ++ (totals_records g (n - (k + 1)) (k + 1) ++ rest))
  around g =
      let e : n ≡ k + suc (n - (k + 1)) = omega (arith, h) in
      let z : 0 + k ≡ k = omega arith in
      let parted : totals_records g n 0 ≡ totals_records g k 0 ++ (totals_bytes (g k) ++ totals_records g (n - (k + 1)) (k + 1)) =
      ap (λ (m : ℕ). totals_records g m 0) e ∙ records_parted g k (suc (n - (k + 1))) 0
      ∙ ap (λ (j : ℕ). totals_records g k 0 ++ totals_records g (suc (n - (k + 1))) j) z
      ∙ ap (λ (l : List ℕ). totals_records g k 0 ++ l) (first g (n - (k + 1))) in
      ap (λ (l : List ℕ). l ++ rest) parted
      ∙ append_assoc (totals_records g k 0) (totals_bytes (g k) ++ totals_records g (n - (k + 1)) (k + 1)) rest
      ∙ ap (λ (l : List ℕ). totals_records g k 0 ++ l) (append_assoc (totals_bytes (g k)) (totals_records g (n - (k + 1)) (k + 1)) rest)
    where
      first : (g : ℕ → Totals) (m : ℕ) → totals_records g (suc m) k ≡ totals_bytes (g k) ++ totals_records g m (k + 1)
      first g m = unfold totals_records in refl

  -- one stored in the place of another, all others as they were
  pub put_among : (g : ℕ → Totals) (t : Totals) → g k ≡ t → ((i : ℕ) → i < n → i ≢ k → f i ≡ g i)
      → put_totals (totals_records f n 0 ++ rest) k t ≡ totals_records g n 0 ++ rest
  put_among g t e other =
      let back : t ≡ g k = sym e in
      let before : List ℕ = totals_records f k 0 in
      let behind : List ℕ = totals_records f (n - (k + 1)) (k + 1) ++ rest in
      let l : List ℕ = before ++ (totals_bytes (f k) ++ behind) in
      let size : 24 * k + length (totals_bytes t) ≡ 24 * k + 24 = ap (λ (m : ℕ). 24 * k + m) (length_record t) in
      let long : length (before ++ totals_bytes (f k)) ≡ 24 * k + 24 =
      length-append before (totals_bytes (f k)) ∙ omega (arith, length_records f k 0, length_record (f k)) in
      let fits : 24 * k + length (totals_bytes t) ≤ length l = subst (λ (m : List ℕ). 24 * k + length (totals_bytes t) ≤ length m) (around f) (omega (arith, size, room)) in
      let same-before : totals_records f k 0 ≡ totals_records g k 0 =
      records_same f g k 0 (λ i b. let z : 0 + i ≡ i = omega arith in subst (λ (m : ℕ). f m ≡ g m) (sym z) (other i (omega (arith, b, h)) (omega (arith, b)))) in
      let same-behind : totals_records f (n - (k + 1)) (k + 1) ≡ totals_records g (n - (k + 1)) (k + 1) =
      records_same f g (n - (k + 1)) (k + 1) (λ i b. other (k + 1 + i) (omega (arith, b, h)) (omega arith)) in
      put_record (totals_records f n 0 ++ rest) k t room
      ∙ ap (λ (m : List ℕ). sets m (24 * k) (totals_bytes t)) (around f)
      ∙ sets-eq (totals_bytes t) l (24 * k) fits
      ∙ ap₂ (λ (a b : List ℕ). (a ++ totals_bytes t) ++ b) (take_at before (totals_bytes (f k) ++ behind) (24 * k) (length_records f k 0))
      (ap₂ drop size (sym (append_assoc before (totals_bytes (f k)) behind)) ∙ drop_at (before ++ totals_bytes (f k)) behind (24 * k + 24) long)
      ∙ append_assoc before (totals_bytes t) behind
      ∙ (λ i. same-before i ++ (totals_bytes (back i) ++ (same-behind i ++ rest)))
      ∙ sym (around g)

  -- and read back
  pub read_among : TotalsFit (f k) → totals_at (totals_records f n 0 ++ rest) k ≡ f k
  read_among fit =
      ap (λ (l : List ℕ). totals_at l k) (sym (put_among f (f k) refl (λ i b o. refl)))
      ∙ stored_totals (totals_records f n 0 ++ rest) k (f k) room fit

-- ---- the records stored one by one

-- the first of so many, then the rest
first_record : (f : ℕ → Totals) (n k : ℕ) (l : List ℕ) → 24 * k + 24 ≤ length l
    → sets l (24 * k) (totals_records f (suc n) k) ≡ sets (put_totals l k (f k)) (24 * (k + 1)) (totals_records f n (k + 1))
unfolding totals_records
first_record f n k l h =
    let rest : List ℕ = totals_records f n (k + 1) in
    let e : 24 * k + length (totals_bytes (f k)) ≡ 24 * (k + 1) = omega (arith, length_record (f k)) in
    sets_append l (24 * k) (totals_bytes (f k)) rest ∙ ap₂ (λ (m : List ℕ) (a : ℕ). sets m a rest) (sym (put_record l k (f k) h)) e

-- in a loop up to n: from the k-th on, what is left of them
module _ (f : ℕ → Totals) (n : ℕ) (l : List ℕ) (k : ℕ) where
  pub record_next : k < n → 24 * n ≤ length l
      → sets (put_totals l k (f k)) (24 * (k + 1)) (totals_records f (n - (k + 1)) (k + 1)) ≡ sets l (24 * k) (totals_records f (n - k) k)
  record_next h fits =
      let e : n - k ≡ suc (n - (k + 1)) = omega (arith, h) in
      rw e (sym (first_record f (n - (k + 1)) k l (omega (arith, h, fits))))

  pub records_done : n ≤ k → sets l (24 * k) (totals_records f (n - k) k) ≡ l
  unfolding totals_records
  records_done h = let e : n - k ≡ 0 = omega (arith, h) in rw e

pub records_whole : (f : ℕ → Totals) (n : ℕ) (l : List ℕ) → 24 * n ≤ length l
    → sets l (24 * 0) (totals_records f (n - 0) 0) ≡ totals_records f n 0 ++ drop (24 * n) l
records_whole f n l h =
    let e : n - 0 ≡ n = omega arith in
    let k : 0 + length (totals_records f n 0) ≡ 24 * n = omega (arith, length_records f n 0) in
    ap (λ (m : ℕ). sets l 0 (totals_records f m 0)) e
    ∙ sets-eq (totals_records f n 0) l 0 (omega (arith, h, length_records f n 0)) ∙ ap (λ (m : ℕ). totals_records f n 0 ++ drop m l) k
