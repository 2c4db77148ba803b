-- What one turn of the loops of `digits_of` and `digits_at` does.
use mathlib.Core.Path.{◌≡◌, refl, ap}
use mathlib.Core.List.{List}
use Prim.Native.Nat.{ℕ, zero, suc, ◌+◌, ◌-◌, ◌*◌, ◌/◌, ◌%◌, ◌^◌, ◌≤◌, ◌<◌}
use native.Mathlib.Nat.{div-div-eq-div-mul, pow-suc, pow-le-pow_right}
use native.Mathlib.Numerals.{add-one}
use native.Mathlib.Omega.{arith}
use lib.Dec.{lit<}
use lib.ListN.{length, get_or, set, drop}
use lib.Seq.{sets, drop-cons}
use Rattle.std.proofs.Common.{Some, None}
use Rattle.std.proofs.lemmas.Bool.Decides.{nat_tests}
use Rattle.hexadecimal.specs.Hexadecimal.{digit, digits, digit_value, read_digits}
use Rattle.words.proofs.Stores.{set_sets}

pub length_digits : (n w : ℕ) → length (digits n w) ≡ n
unfolding digits
length_digits zero w = refl
length_digits (suc n) w = ap suc (length_digits n w)

-- behind the n lowest digits comes the next higher one, one place to the left
place : (n : ℕ) → n < 16 → 16 - n ≡ suc (15 - n)
place n h = omega arith

next_place : (n : ℕ) → n < 16 → 15 - n ≡ 16 - (n + 1)
next_place n h = omega arith

pub one_written : (l : List ℕ) (n w : ℕ) → n < 16 →
    set (sets l (16 - n) (digits n w)) (15 - n) (digit (w / 16 ^ n % 16)) ≡ sets l (16 - (n + 1)) (digits (n + 1) w)
unfolding digits
one_written l n w h =
    rw (place n h, ← next_place n h, add-one n) (set_sets l (15 - n) (suc (15 - n)) (digits n w) (digit (w / 16 ^ n % 16)) (omega arith))

pub one_less : (w n : ℕ) → w / 16 ^ n / 16 ≡ w / 16 ^ (n + 1)
one_less w n = rw (add-one n, pow-suc 16 n) (div-div-eq-div-mul w (16 ^ n) 16)

-- a digit is counted, and any other byte ends the reading
module _ (l : List ℕ) (i v : ℕ) (h : i < length l) where
  pub one_read : (d : ℕ) → digit_value (get_or l i 0) ≡ Some d → read_digits v (drop i l) ≡ read_digits (16 * v + d) (drop (i + 1) l)
  unfolding read_digits
  one_read d e = rw (add-one i, drop-cons l i 0 h, e)

  pub none_read : digit_value (get_or l i 0) ≡ None → read_digits v (drop i l) ≡ None
  unfolding read_digits
  none_read e = rw (drop-cons l i 0 h, e)

pub digit_below : (b d : ℕ) → digit_value b ≡ Some d → d < 16
unfolding digit_value
digit_below b d e = grind (arith, nat_tests)

-- what n digits count is below 16 ^ n, so that sixteen of them fit a word
pub counts_below : (n v d : ℕ) → v < 16 ^ n → d < 16 → 16 * v + d < 16 ^ (n + 1)
counts_below n v d h g = rw (add-one n, pow-suc 16 n) (omega arith)

pub counts_fit : (n : ℕ) → n < 16 → 16 ^ (n + 1) ≤ 16 ^ 16
counts_fit n h = let g : n + 1 ≤ 16 = omega arith in pow-le-pow_right (lit< tt) g
