-- A refusal's number in decimal digits.
use mathlib.Core.Path.{◌≡◌}
use lib.ListN.{take}
use Rattle.std.proofs.lemmas.Bool.Decides.{nat_tests}
use mathlib.Core.List.{List, [], ◌∷◌, ◌++◌}
use Prim.Native.Nat.{ℕ, ◌+◌, ◌/◌, ◌%◌, ◌≤◌, ◌<◌}
use native.Mathlib.Omega.{arith}
use borrow.Author.Tests.{lt-ltb, le-ltb}
use Rattle.hexadecimal.specs.Hexadecimal.{digit}
use Rattle.objects.specs.declared.answers.Refusal.{Refusal}
use Rattle.objects.specs.declared.answers.Refusal.TheVariants as refusal
use Rattle.objects.specs.Refusals.{number_of}
use Rattle.text.specs.Text.{ascii}
use Rattle.lines.specs.Line.{numeral}

pub below_hundred : (r : Refusal) → number_of r < 100
unfolding number_of
below_hundred refusal.Site = omega arith
below_hundred refusal.Run = omega arith
below_hundred refusal.Surface = omega arith
below_hundred refusal.Object = omega arith
below_hundred refusal.Series = omega arith
below_hundred refusal.Reading = omega arith
below_hundred refusal.Results = omega arith
below_hundred refusal.Gap = omega arith
below_hundred refusal.Turned = omega arith
below_hundred refusal.NoSector = omega arith
below_hundred refusal.Reveal = omega arith
below_hundred refusal.Line = omega arith
below_hundred refusal.Edition = omega arith
below_hundred refusal.LeafDay = omega arith

module _ (n : ℕ) where
  pub one_digit : n < 10 → (48 + n % 10) ∷ [] ≡ numeral n
  unfolding numeral digit
  one_digit h = let z : n % 10 ≡ n = omega arith in rw (lt-ltb n 10 h, z)

  pub two_digits : 10 ≤ n → n < 100 → (48 + n / 10) ∷ (48 + n % 10) ∷ [] ≡ numeral n
  unfolding numeral digit
  two_digits h k =
      let tens : n / 10 < 10 = omega arith in
      let ones : n % 10 < 10 = omega arith in
      rw (le-ltb n 10 h, lt-ltb (n / 10) 10 tens, lt-ltb (n % 10) 10 ones)

-- a line of 19 bytes holds a number below 100 and what follows it
pub refused : (l : List ℕ) (n : ℕ) → n < 100 → l ≡ numeral n → take 19 (l ++ 32 ∷ 45 ∷ 10 ∷ []) ≡ numeral n ++ ascii " -\n"
unfolding numeral ascii
refused l n h e = rw e (grind (arith, nat_tests))
