-- The root by the tests that the code makes: x above zero, x zero, and neither. `zero` is the constant 0.0 as the code has it. Assumes nothing.
use mathlib.Core.Path.{◌≡◌, refl, sym, ap, ◌∙◌, subst}
use mathlib.Core.Bool.{Bool, true, false, beq, ◌||◌, false≢true, true≢false}
use mathlib.Core.Logic.{◌⊎◌, inl, inr}
use Prim.Native.Nat.{ℕ, zero, suc, ◌*◌, ◌≤◌, ◌<◌}
use native.Mathlib.Nat.{mul-pos, zero-mul, zero-lt-suc, lt_irrefl, not-le_of_lt}
use native.Mathlib.Omega.{arith}
use lib.IntN.{ℤ, pos}
use lib.Dec.{T, ltb, eqb, lt→ltb, ltb→lt, eqb→eq}
use lib.Ieee.{Float, nan, inf, fin, binary64, up, down, of_bits, to_bits, fits, level, lt, eq}
use lib.Ieee.Fits.{up_pos, and_l}
use lib.Ieee.Bits.{is_true}
use lib.Ieee.Positive.{positive}
use Rattle.roots.specs.Root.{square_root}
use Rattle.roots.proofs.Pattern.{infinite, positive_bits}

abbrev pub none : Float
none = fin false 0 (pos 0)

pub none_is : of_bits binary64 0 ≡ none
unfolding of_bits
none_is = refl

from_true : {b : Bool} → b ≡ true → T b
from_true e = subst T (sym e) tt

clash : {X : Type 0} {b : Bool} → b ≡ true → b ≡ false → X
clash p q = absurd (true≢false (sym p ∙ q))

-- ---- zero against a finite number: the size is m * up e * 1 against 0 * 1 * down e

no_size : (m : ℕ) (e : ℤ) → m * up e * 1 ≡ 0 * 1 * down e → 0 < m → ⊥
no_size m e h p = no (m * up e) (down e) (mul-pos p (up_pos e)) h
  where
    no : (a d : ℕ) → 0 < a → a * 1 ≡ 0 * 1 * d → ⊥
    no a d p h = omega arith

-- ---- x above zero

pub above_cases : (x : Float) → lt none x ≡ true → (x ≡ inf false) ⊎ T (positive x)
unfolding lt
above_cases nan h = absurd (false≢true h)
above_cases (inf true) h = absurd (false≢true h)
above_cases (inf false) h = inl refl
above_cases (fin true m e) h = absurd (false≢true h)
above_cases (fin false zero e) h = absurd (no (up e) (down e) (ltb→lt (0 * 1 * down e) (0 * up e * 1) (from_true h)))
  where
    no : (a d : ℕ) → 0 * 1 * d < 0 * a * 1 → ⊥
    no a d l = omega arith
above_cases (fin false (suc m) e) h = inr (lt→ltb 0 (suc m) (zero-lt-suc m))

pub below_infinity : (x : Float) → lt none x ≡ true → to_bits binary64 x < infinite → T (positive x)
below_infinity x h l = go (above_cases x h)
  where
    of_inf : to_bits binary64 (inf false) ≡ infinite
    of_inf = unfold to_bits in refl

    go : (x ≡ inf false) ⊎ T (positive x) → T (positive x)
    go (inl e) = absurd (lt_irrefl infinite (subst (λ (b : ℕ). b < infinite) (ap (to_bits binary64) e ∙ of_inf) l))
    go (inr p) = p

pub at_infinity : (x : Float) → T (fits binary64 x) → lt none x ≡ true → infinite ≤ to_bits binary64 x → x ≡ square_root x
at_infinity x f h l = go (above_cases x h)
  where
    root : inf false ≡ square_root (inf false)
    root = unfold square_root in refl

    go : (x ≡ inf false) ⊎ T (positive x) → x ≡ square_root x
    go (inl e) = e ∙ root ∙ ap square_root (sym e)
    go (inr p) = absurd (not-le_of_lt (positive_bits x f p).1 l)

-- ---- x zero

sized : (s : Bool) (m : ℕ) (e : ℤ) → eq (fin s (suc m) e) none ≡ true → ⊥
unfolding eq
sized s m e h =
    let a = suc m * up e * 1 in
    no_size (suc m) e (eqb→eq a (0 * 1 * down e) (and_l (eqb a (0 * 1 * down e)) (beq s false || eqb a 0) (from_true h))) (zero-lt-suc m)

pub at_zero : (x : Float) → eq x none ≡ true → x ≡ square_root x
at_zero nan h = absurd (false≢true (unfold eq in h))
at_zero (inf true) h = absurd (false≢true (unfold eq in h))
at_zero (inf false) h = absurd (false≢true (unfold eq in h))
at_zero (fin true zero e) h = unfold square_root in refl
at_zero (fin false zero e) h = unfold square_root in refl
at_zero (fin true (suc m) e) h = absurd (sized true m e h)
at_zero (fin false (suc m) e) h = absurd (sized false m e h)

-- ---- neither

pub unsized : (s : Bool) (e : ℤ) → eq (fin s zero e) none ≡ true
unfolding eq
unsized s e = go s (0 * up e * 1) (0 * 1 * down e) (ap (λ (a : ℕ). a * 1) (zero-mul (up e))) (zero-mul (down e))
  where
    at : (s : Bool) → level s 0 false 0 ≡ true
    at true = refl
    at false = refl

    go : (s : Bool) (a b : ℕ) → a ≡ 0 → b ≡ 0 → level s a false b ≡ true
    go s a b p q = ap (λ (x : ℕ). level s x false b) p ∙ ap (λ (x : ℕ). level s 0 false x) q ∙ at s

above : (m : ℕ) (e : ℤ) → lt none (fin false (suc m) e) ≡ true
unfolding lt
above m e = is_true (ltb (0 * 1 * down e) (suc m * up e * 1)) (lt→ltb (0 * 1 * down e) (suc m * up e * 1) (some (suc m * up e) (down e) (mul-pos (zero-lt-suc m) (up_pos e))))
  where
    some : (a d : ℕ) → 0 < a → 0 * 1 * d < a * 1
    some a d p = omega arith

pub elsewhere : (x : Float) → lt none x ≡ false → eq x none ≡ false → nan ≡ square_root x
elsewhere nan h k = unfold square_root in refl
elsewhere (inf true) h k = unfold square_root in refl
elsewhere (inf false) h k = absurd (true≢false (unfold lt in h))
elsewhere (fin true zero e) h k = clash (unsized true e) k
elsewhere (fin false zero e) h k = clash (unsized false e) k
elsewhere (fin true (suc m) e) h k = unfold square_root in refl
elsewhere (fin false (suc m) e) h k = clash (above m e) h
