-- The largest total is the latest of the largest numbers. Assumes nothing.
use mathlib.Core.Path.{◌≡◌, refl, sym, ap, subst}
use mathlib.Core.Bool.{Bool, true, false, cond, not}
use mathlib.Core.Logic.{⊎_elim}
use Prim.Native.Nat.{ℕ, zero, suc, ◌<◌}
use native.Mathlib.Nat.{le_of_suc-le-suc, eq-or-lt_of_le}
use native.Mathlib.Omega.{arith}
use lib.Dec.{T}
use lib.Ieee.{Float, nan, inf, fin, is_nan, lt}
use Rattle.doubles.specs.Functions.{float_max, max_of2}
use Rattle.doubles.specs.Order.{◌≼◌, ◌≺◌, Number}
use Rattle.doubles.proofs.Order.{le_refl, le_trans, lt→le, le_of_not_lt}
use Rattle.jobs.specs.declared.answers.Totals.{Totals}
use Rattle.jobs.specs.Rows.{stored_row}
use Rattle.jobs.specs.Totals.{no_totals, with_step, day_of_step, totals_of}
use Rattle.jobs.specs.LargestTotal.{Largest, none, latest, LargestTotal}

-- there is one NaN
one_nan : (x : Float) → is_nan x ≡ true → x ≡ nan
unfolding is_nan
one_nan nan e = refl
one_nan (inf s) e = absurd (subst T (sym e) tt)
one_nan (fin s k d) e = absurd (subst T (sym e) tt)

no_number : {x : Float} → is_nan x ≡ true → Number x → ⊥
no_number e n = subst (λ (b : Bool). T (not b)) e n.holds

number-not-nan : {x : Float} → Number x → is_nan x ≡ false
number-not-nan {x} n = go (is_nan x) n.holds
  where
    go : (b : Bool) → T (not b) → b ≡ false
    go true t = absurd t
    go false t = refl

a_number : {x : Float} → is_nan x ≡ false → Number x
a_number e = record { holds = subst (λ (b : Bool). T (not b)) (sym e) tt }

-- against a number the largest is by the comparison alone
past_number : (a b : Float) → is_nan a ≡ false → float_max a b ≡ cond (is_nan b) a (max_of2 a b)
unfolding float_max
past_number a b e = ap (λ (t : Bool). cond t b (cond (is_nan b) a (max_of2 a b))) e

larger_is : (a b : Float) → cond (lt b a) a b ≡ max_of2 a b
unfolding max_of2
larger_is a b = refl

module _ (chosen : ℕ → Bool) (x : ℕ → Float) (n : ℕ) where
  -- what holds of the first n and of the next holds of all
  all_of : (P : ℕ → Type 0) → ((i : ℕ) → i < n → P i) → P n → (i : ℕ) → i < suc n → P i
  all_of P old new i h =
      ⊎_elim (λ (e : i ≡ n). subst P (sym e) new) (λ (l : i < n). old i l) (eq-or-lt_of_le (le_of_suc-le-suc h))

  -- the next is not chosen
  passed_over : {y : Float} → (T (chosen n) → ⊥) → Largest chosen x n y → Largest chosen x (suc n) y
  passed_over out (none all) = none (all_of (λ (i : ℕ). T (chosen i) → is_nan (x i) ≡ true) all (λ c. absurd (out c)))
  passed_over out (latest j h c m top later) =
      latest j (omega (arith, h)) c m
      (all_of (λ (i : ℕ). T (chosen i) → Number (x i) → x i ≼ x j) top (λ c _. absurd (out c)))
      (λ i a b. all_of (λ (i : ℕ). j < i → T (chosen i) → Number (x i) → x i ≺ x j) (λ i b a. later i a b) (λ _ c _. absurd (out c)) i b a)

  module _ (here : T (chosen n)) where
    -- it is skipped
    skipped : {y : Float} → is_nan (x n) ≡ true → Largest chosen x n y → Largest chosen x (suc n) y
    skipped e (none all) = none (all_of (λ (i : ℕ). T (chosen i) → is_nan (x i) ≡ true) all (λ _. e))
    skipped e (latest j h c m top later) =
        latest j (omega (arith, h)) c m
        (all_of (λ (i : ℕ). T (chosen i) → Number (x i) → x i ≼ x j) top (λ _ o. absurd (no_number e o)))
        (λ i a b. all_of (λ (i : ℕ). j < i → T (chosen i) → Number (x i) → x i ≺ x j) (λ i b a. later i a b) (λ _ _ o. absurd (no_number e o)) i b a)

    -- it is the first number
    first_number : is_nan (x n) ≡ false → ((i : ℕ) → i < n → T (chosen i) → is_nan (x i) ≡ true) → Largest chosen x (suc n) (x n)
    first_number e all =
        latest n (omega arith) here (a_number e)
        (all_of (λ (i : ℕ). T (chosen i) → Number (x i) → x i ≼ x n) (λ i b c o. absurd (no_number (all i b c) o)) (λ _ o. le_refl o))
        (λ i a b. absurd (omega (arith, a, b)))

    -- it is below the largest
    below : (j : ℕ) → j < n → T (chosen j) → Number (x j) → ((i : ℕ) → i < n → T (chosen i) → Number (x i) → x i ≼ x j)
        → ((i : ℕ) → j < i → i < n → T (chosen i) → Number (x i) → x i ≺ x j) → x n ≺ x j → Largest chosen x (suc n) (x j)
    below j h c m top later l =
        latest j (omega (arith, h)) c m
        (all_of (λ (i : ℕ). T (chosen i) → Number (x i) → x i ≼ x j) top (λ _ _. lt→le l))
        (λ i a b. all_of (λ (i : ℕ). j < i → T (chosen i) → Number (x i) → x i ≺ x j) (λ i b a. later i a b) (λ _ _ _. l) i b a)

    -- the largest is not above it
    taken : (j : ℕ) → ((i : ℕ) → i < n → T (chosen i) → Number (x i) → x i ≼ x j) → Number (x n) → x j ≼ x n → Largest chosen x (suc n) (x n)
    taken j top m l =
        latest n (omega arith) here m
        (all_of (λ (i : ℕ). T (chosen i) → Number (x i) → x i ≼ x n) (λ i b c o. le_trans (top i b c o) l) (λ _ o. le_refl o))
        (λ i a b. absurd (omega (arith, a, b)))

    -- so it goes by `float_max`
    one_more : (y : Float) → Largest chosen x n y → Largest chosen x (suc n) (float_max y (x n))
    one_more y (none all) = unfold float_max is_nan in go (is_nan (x n)) refl
      where
        go : (b : Bool) → is_nan (x n) ≡ b → Largest chosen x (suc n) (x n)
        go true e = subst (Largest chosen x (suc n)) (sym (one_nan (x n) e)) (skipped e (none all))
        go false e = first_number e all
    one_more y (latest j h c m top later) = subst (Largest chosen x (suc n)) (sym shape) (go (is_nan (x n)) refl)
      where
        old_number : is_nan (x j) ≡ false
        old_number = number-not-nan m

        shape : float_max (x j) (x n) ≡ cond (is_nan (x n)) (x j) (max_of2 (x j) (x n))
        shape = past_number (x j) (x n) old_number

        by_order : (b : Bool) → lt (x n) (x j) ≡ b → Number (x n) → Largest chosen x (suc n) (cond b (x j) (x n))
        by_order true e o = below j h c m top later (record { holds = subst T (sym e) tt })
        by_order false e o = taken j top o (le_of_not_lt o m e)

        go : (b : Bool) → is_nan (x n) ≡ b → Largest chosen x (suc n) (cond b (x j) (max_of2 (x j) (x n)))
        go true e = skipped e (latest j h c m top later)
        go false e = subst (Largest chosen x (suc n)) (larger_is (x j) (x n)) (by_order (lt (x n) (x j)) refl (a_number e))

pub largest_total : LargestTotal
unfolding totals_of no_totals
largest_total part run results zero = none (λ i h. absurd (omega (arith, h)))
largest_total part run results (suc n) = go (part (day_of_step run n)) refl (totals_of part run results n) (largest_total part run results n)
  where
    go : (b : Bool) → part (day_of_step run n) ≡ b → (t : Totals)
        → Largest (λ (i : ℕ). part (day_of_step run i)) (λ (i : ℕ). (stored_row results i).total) n t.largest
        → Largest (λ (i : ℕ). part (day_of_step run i)) (λ (i : ℕ). (stored_row results i).total) (suc n) (cond b (with_step run.step t (stored_row results n)) t).largest
    go true e t l = unfold with_step in one_more (λ (i : ℕ). part (day_of_step run i)) (λ (i : ℕ). (stored_row results i).total) n (subst T (sym e) tt) t.largest l
    go false e t l = passed_over (λ (i : ℕ). part (day_of_step run i)) (λ (i : ℕ). (stored_row results i).total) n (λ c. subst T e c) l
