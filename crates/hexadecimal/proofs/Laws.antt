-- Laws of hexadecimal digits in a list of bytes: what is written is read back, all else stays as it was, and nothing but what is written for a word is read as it.
use mathlib.Core.Path.{◌≡◌, refl, sym, ◌∙◌, ap, ap₂}
use mathlib.Core.List.{List, [], ◌∷◌, ◌++◌}
use Prim.Native.Nat.{ℕ, zero, suc, ◌+◌, ◌*◌, ◌/◌, ◌%◌, ◌^◌, ◌≤◌, ◌<◌}
use native.Mathlib.Nat.{div-one, mod-lt, mod-eq_of_lt, div-div-eq-div-mul, pow-suc}
use native.Mathlib.Decide.{dec_lt}
use native.Mathlib.Omega.{arith}
use borrow.Author.Tests.{le-leb, lt-leb}
use lib.Dec.{leb, lit<}
use lib.ListN.{length, get_or, take, drop, length-take, length-drop}
use lib.Seq.{sets, sets-eq, drop-append_seam, take-append_seam, length-take-le}
use Rattle.std.proofs.Common.{Some, append_assoc}
use Rattle.std.proofs.lemmas.Bool.Decides.{nat_tests}
use Rattle.std.proofs.lemmas.Option.{none-some, same_Some, option_and_then_some}
use Rattle.hexadecimal.specs.Hexadecimal.{digit, digits, digits_of, put_digits, digit_value, read_digits, digits_at}
use Rattle.words.proofs.Bases.{cut_highest}
use Rattle.words.proofs.Stores.{length_tested, before_tested, behind_tested}
use Rattle.hexadecimal.proofs.DigitSteps.{length_digits, digit_below}

-- ---- a digit and what it counts

pub value_of_digit : (d : ℕ) → d < 16 → digit_value (digit d) ≡ Some d
unfolding digit_value digit
value_of_digit d h = grind (arith, nat_tests)

pub digit_of_value : (b d : ℕ) → digit_value b ≡ Some d → digit d ≡ b
unfolding digit_value digit
digit_of_value b d e = grind (arith, nat_tests)

-- ---- what a store keeps

pub length-digits_of : (w : ℕ) → length (digits_of w) ≡ 16
unfolding digits_of
length-digits_of w = length_digits 16 w

module _ (l : List ℕ) (i w : ℕ) where
  pub length_put_digits : length (put_digits l i w) ≡ length l
  unfolding put_digits
  length_put_digits = length_tested (leb (i + 16) (length l)) l i (digits_of w)

  pub before_put_digits : (j : ℕ) → j < i → get_or (put_digits l i w) j 0 ≡ get_or l j 0
  unfolding put_digits
  before_put_digits j h = before_tested (leb (i + 16) (length l)) l i (digits_of w) j h

  pub behind_put_digits : (j : ℕ) → i + 16 ≤ j → get_or (put_digits l i w) j 0 ≡ get_or l j 0
  unfolding put_digits
  behind_put_digits j h = behind_tested (leb (i + 16) (length l)) l i (digits_of w) j (rw length-digits_of h)

-- ---- what is written is read back

count : (v d p r : ℕ) → (16 * v + d) * p + r ≡ v * (p * 16) + (d * p + r)
count v d p r = omega arith

read_back : (n v w : ℕ) → read_digits v (digits n w) ≡ Some (v * 16 ^ n + w % 16 ^ n)
unfolding digits read_digits
read_back zero v w = ap Some (omega arith)
read_back (suc n) v w =
    let d : ℕ = w / 16 ^ n % 16 in
    rw (value_of_digit d (mod-lt (w / 16 ^ n) (lit< tt)))
    (read_back n (16 * v + d) w
    ∙ ap Some (rw (cut_highest 16 (lit< tt) n w, pow-suc 16 n) (count v d (16 ^ n) (w % 16 ^ n))))

-- what stands where a run was stored
there : (l vs : List ℕ) (i n : ℕ) → n ≡ length vs → i + n ≤ length l → take n (drop i (sets l i vs)) ≡ vs
there l vs i n e h =
    let r = drop (i + n) l in
    let s : sets l i vs ≡ take i l ++ (vs ++ r) = sets-eq vs l i (omega arith) ∙ rw (e, append_assoc) in
    let d : length (take i l) ≡ i = length-take-le i l (omega arith) in
    ap (λ (m : List ℕ). take n (drop i m)) s
    ∙ ap (take n) (rw d at (drop-append_seam (take i l) (vs ++ r)))
    ∙ (ap (λ (m : ℕ). take m (vs ++ r)) e ∙ take-append_seam vs r)

module _ (l : List ℕ) (i w : ℕ) (h : i + 16 ≤ length l) where
  stored : put_digits l i w ≡ sets l i (digits 16 w)
  unfolding put_digits digits_of
  stored = rw (le-leb (i + 16) (length l) h)

  -- as far as sixteen digits hold it
  pub read_low : digits_at (put_digits l i w) i ≡ Some (w % 2 ^ 64)
  unfolding digits_at
  read_low =
      let n : i + 16 ≤ length (put_digits l i w) = rw length_put_digits h in
      rw (le-leb (i + 16) (length (put_digits l i w)) n, stored, there l (digits 16 w) i 16 (sym (length_digits 16 w)) h) (read_back 16 0 w ∙ ap Some (omega arith))

  pub read_written : w < 2 ^ 64 → digits_at (put_digits l i w) i ≡ Some w
  read_written f = read_low ∙ ap Some (mod-eq_of_lt f)

-- ---- nothing else is read as a word

next : (w n v d : ℕ) → w / 16 ^ n ≡ 16 * v + d → d < 16 → w / 16 ^ suc n ≡ v
next w n v d e h = rw (pow-suc 16 n, ← div-div-eq-div-mul w (16 ^ n) 16) (omega arith)

read_only : (l : List ℕ) (v w : ℕ) → read_digits v l ≡ Some w → (l ≡ digits (length l) w) × (w / 16 ^ length l ≡ v)
unfolding digits read_digits
read_only [] v w e = let z : v ≡ w = same_Some v w e in (refl, div-one w ∙ sym z)
read_only (b ∷ l) v w e = option_and_then_some (λ (d : ℕ). read_digits (16 * v + d) l) (digit_value b) w e (λ d i r.
    let q = read_only l (16 * v + d) w r in
    let f : d < 16 = digit_below b d i in
    let g : d ≡ w / 16 ^ length l % 16 = omega (arith, q.1) in
    (ap₂ ◌∷◌ (sym (digit_of_value b d i) ∙ ap digit g) q.0, next w (length l) v d q.1 f))

module _ (l : List ℕ) (i w : ℕ) (e : digits_at l i ≡ Some w) where
  pub read_room : i + 16 ≤ length l
  unfolding digits_at
  read_room = elim (dec_lt (length l) (i + 16)) [
    | no n ↦ omega arith
    | yes h ↦ absurd (none-some w (rw (lt-leb (i + 16) (length l) h) at e))
  ]

  only_written : (take 16 (drop i l) ≡ digits 16 w) × (w / 16 ^ 16 ≡ 0)
  unfolding digits_at
  only_written =
      let n : length (take 16 (drop i l)) ≡ 16 = simp (length-take, length-drop) (omega (arith, read_room)) in
      rw n at (read_only (take 16 (drop i l)) 0 w (rw (le-leb (i + 16) (length l) read_room) at e))

  pub read_digits_lem : take 16 (drop i l) ≡ digits_of w
  unfolding digits_of
  read_digits_lem = only_written.0

  pub read_below : w < 2 ^ 64
  read_below = omega (arith, only_written.1)
