-- The row of Table 8: `table_row_is_row`, the whole claim of specs/Table.antt, and that only one number meets it (`row_unique`). Assumes
-- nothing.
use Rattle.std.specs.List.{position_or_len}
use Rattle.std.specs.Option.{unwrap_or}
use Rattle.std.proofs.Common.{Option, Some, None, le_trans, le_of_eq}
use mathlib.Core.Path.{◌≡◌, refl, sym, ap, ◌∙◌}
use mathlib.Core.Bool.{Bool, true, false, cond, not, true≢false}
use mathlib.Core.List.{List, [], ◌∷◌}
use Prim.Native.Nat.{ℕ, zero, suc, ◌+◌, ◌≤◌, ◌<◌, zero-le, suc-le-suc}
use native.Mathlib.Nat.{le_of_suc-le-suc, not-suc-le-zero, le_antisymm, lt_of_not-le}
use native.Mathlib.Omega.{arith}
use lib.Dec.{T, ltb, nltb→le}
use lib.ListN.{length, get_or}
use lib.Ieee.{Float, nan, inf, fin, lt, is_nan}
use Rattle.irradiance.specs.Table.{limits, first_above, table_row, IsTableRow}

-- ---- the first of a list that is above x

first_le : (ls : List Float) (x : Float) → first_above ls x ≤ length ls
unfolding first_above
first_le [] x = zero-le
first_le (l ∷ ls) x = go (lt x l) (first_le ls x)
  where
    go : (b : Bool) → first_above ls x ≤ length ls → cond b 0 (suc (first_above ls x)) ≤ suc (length ls)
    go true h = zero-le
    go false h = suc-le-suc h

none_before : (ls : List Float) (x : Float) (j : ℕ) → j < first_above ls x → lt x (get_or ls j nan) ≡ false
unfolding first_above
none_before [] x j h = absurd (not-suc-le-zero h)
none_before (l ∷ ls) x j h = go (lt x l) refl j (none_before ls x) h
  where
    go : (b : Bool) → lt x l ≡ b → (j : ℕ) → ((i : ℕ) → i < first_above ls x → lt x (get_or ls i nan) ≡ false) → j < cond b 0 (suc (first_above ls x)) → lt x (get_or (l ∷ ls) j nan) ≡ false
    go true e j ih h = absurd (not-suc-le-zero h)
    go false e zero ih h = e
    go false e (suc j) ih h = ih j (le_of_suc-le-suc h)

itself_above : (ls : List Float) (x : Float) → first_above ls x < length ls → lt x (get_or ls (first_above ls x) nan) ≡ true
unfolding first_above
itself_above [] x h = absurd (not-suc-le-zero h)
itself_above (l ∷ ls) x h = go (lt x l) refl (itself_above ls x) h
  where
    go : (b : Bool) → lt x l ≡ b → (first_above ls x < length ls → lt x (get_or ls (first_above ls x) nan) ≡ true)
        → cond b 0 (suc (first_above ls x)) < suc (length ls) → lt x (get_or (l ∷ ls) (cond b 0 (suc (first_above ls x))) nan) ≡ true
    go true e ih h = e
    go false e ih h = ih (le_of_suc-le-suc h)

-- ---- the row

nan_row : (e : Float) → T (is_nan e) → table_row e ≡ 7
nan_row nan t = unfold table_row lt in refl
nan_row (inf s) t = unfold is_nan in absurd t
nan_row (fin s m x) t = unfold is_nan in absurd t

pub table_row_is_row : (e : Float) → IsTableRow e (table_row e)
unfolding table_row
table_row_is_row e = record {
  within = first_le limits e;
  not_before = none_before limits e;
  below = itself_above limits e;
  of_nan = nan_row e;
}

-- of two rows neither is before the other
apart : {e : Float} {r s : ℕ} → IsTableRow e r → IsTableRow e s → r < s → ⊥
apart {e} {r} {s} p q h = true≢false (sym (p.below (before_last h q.within)) ∙ q.not_before r h)
  where
    before_last : r < s → s ≤ 7 → r < 7
    before_last h l = omega arith

pub row_unique : {e : Float} {r s : ℕ} → IsTableRow e r → IsTableRow e s → r ≡ s
row_unique p q = le_antisymm (le_of_suc-le-suc (lt_of_not-le (apart q p))) (le_of_suc-le-suc (lt_of_not-le (apart p q)))

-- ---- the row by the library's search of a slice
first_place : (ls : List Float) (x : Float) → position_or_len (lt x) ls ≡ first_above ls x
unfolding first_above
first_place [] x = refl
first_place (l ∷ ls) x = go (lt x l) (first_place ls x)
  where
    go : (b : Bool) → position_or_len (lt x) ls ≡ first_above ls x → cond (not b) (1 + position_or_len (lt x) ls) 0 ≡ cond b 0 (suc (first_above ls x))
    go true e = refl
    go false e = omega (arith, e)

-- a place that is not found is the length
place_or : (n m : ℕ) → n ≤ m → unwrap_or (cond (ltb n m) (Some n) None) m ≡ n
place_or n m h = go (ltb n m) (nltb→le n m)
  where
    go : (b : Bool) → (T (not b) → m ≤ n) → unwrap_or (cond b (Some n) None) m ≡ n
    go true f = refl
    go false f = le_antisymm (f tt) h

pub row_found : (e : Float) (o : Option ℕ) → (let n = position_or_len (lt e) limits in o ≡ cond (ltb n (length limits)) (Some n) None) → unwrap_or o 7 ≡ table_row e
unfolding table_row limits
row_found e o h = ap (λ (r : Option ℕ). unwrap_or r 7) h ∙ place_or _ 7 (le_trans (le_of_eq (first_place limits e)) (first_le limits e)) ∙ first_place limits e
