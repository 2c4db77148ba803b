-- The first 170 bytes of a line tell as much as the line: longer ones are neither the names line nor a line with values.
use Rattle.std.specs.Prelude.{Err}
use mathlib.Core.Path.{◌≡◌, refl, sym, ◌∙◌, ap}
use mathlib.Core.Bool.{Bool, true, false}
use mathlib.Core.Logic.{◌≢◌}
use mathlib.Core.List.{List, [], ◌∷◌, ◌++◌}
use Prim.Native.Nat.{ℕ, zero, suc, ◌≤◌}
use native.Mathlib.Omega.{arith}
use borrow.Author.Tests.{leb-true, leb-false, ne_eqb}
use lib.Dec.{leb}
use lib.ListN.{length, take}
use lib.Seq.{take_all, length-take-le}
use Rattle.objects.specs.declared.answers.Refusal.TheVariants as refusal
use Rattle.std.proofs.lemmas.Slice.Eq.{bytes_eq-Decides}
use Rattle.text.specs.Text.{ascii, same_text}
use Rattle.lines.specs.Line.{line_fine, line_answer}
use Rattle.listing.specs.Listing.{names}

-- a front of a front
pub take_again : (n : ℕ) (l p : List ℕ) → take n (take n l ++ p) ≡ take n (l ++ p)
take_again zero l p = refl
take_again (suc n) [] p = refl
take_again (suc n) (a ∷ l) p = ap (λ (m : List ℕ). a ∷ m) (take_again n l p)

-- what is the same for all texts from 170 bytes on is told by the first 170 bytes
cut_same : {A : Type 0} (f : List ℕ → A) (x : A) → ((l : List ℕ) → 170 ≤ length l → f l ≡ x) → (l : List ℕ) → f (take 170 l) ≡ f l
cut_same {A} f x long l = go (leb (length l) 170) refl
  where
    go : (b : Bool) → leb (length l) 170 ≡ b → f (take 170 l) ≡ f l
    go true e = ap f (take_all 170 l (leb-true (length l) 170 e))
    go false e =
        let h = leb-false (length l) 170 e in
        let k = length-take-le 170 l (omega (arith, h)) in
        long (take 170 l) (omega (arith, k)) ∙ sym (long l (omega (arith, h)))

long_line : (l : List ℕ) → 170 ≤ length l → line_answer l ≡ Err refusal.Line
unfolding line_answer line_fine
long_line l h = let e : length l ≢ 169 = (λ k. omega (arith, h, k)) in rw (ne_eqb (length l) 169 e) refl

pub cut_answer : (l : List ℕ) → line_answer (take 170 l) ≡ line_answer l
cut_answer = cut_same line_answer (Err refusal.Line) long_line

long_names : (l : List ℕ) → 170 ≤ length l → same_text l names ≡ false
unfolding names ascii
long_names l h = go (same_text l names) refl
  where
    go : (b : Bool) → same_text l names ≡ b → b ≡ false
    go true e = let z = ap length ((bytes_eq-Decides l names).0 e) in absurd (omega (arith, h, z))
    go false e = refl

pub cut_names : (l : List ℕ) → same_text (take 170 l) names ≡ same_text l names
cut_names = cut_same (λ (l : List ℕ). same_text l names) false long_names
