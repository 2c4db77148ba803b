-- A run of stores, `sets l i vs`, leaves the places before it and behind it as they were.
use mathlib.Core.Path.{◌≡◌, refl, sym, ◌∙◌, ap}
use mathlib.Core.Bool.{Bool, true, false, cond}
use mathlib.Core.List.{List, [], ◌∷◌, ◌++◌}
use Prim.Native.Nat.{ℕ, suc, ◌+◌, ◌≤◌, ◌<◌}
use native.Mathlib.Omega.{arith}
use borrow.Rule.Slice.PartMut.{put_mid}
use lib.ListN.{length, get_or, set, take, drop}
use Rattle.std.proofs.Common.{append_assoc}
use lib.Seq.{sets, sets-eq, drop-drop, length-sets, set-set, set_comm, get_or-set_other}

-- a store before the run may be made first
pub set_sets : (l : List ℕ) (j i : ℕ) (vs : List ℕ) (a : ℕ) → j < i → set (sets l i vs) j a ≡ sets (set l j a) i vs
set_sets l j i [] a h = refl
set_sets l j i (v ∷ vs) a h =
    set_sets (set l i v) j (suc i) vs a (omega arith) ∙ ap (λ (m : List ℕ). sets m (suc i) vs) (set_comm l i j v a (omega arith))

pub get_d_sets_before : (l : List ℕ) (j i : ℕ) (vs : List ℕ) → j < i → get_or (sets l i vs) j 0 ≡ get_or l j 0
get_d_sets_before l j i [] h = refl
get_d_sets_before l j i (v ∷ vs) h =
    get_d_sets_before (set l i v) j (suc i) vs (omega arith) ∙ get_or-set_other l i j v 0 (omega arith)

pub get_d_sets_behind : (l : List ℕ) (j i : ℕ) (vs : List ℕ) → i + length vs ≤ j → get_or (sets l i vs) j 0 ≡ get_or l j 0
get_d_sets_behind l j i [] h = refl
get_d_sets_behind l j i (v ∷ vs) h =
    get_d_sets_behind (set l i v) j (suc i) vs (omega arith) ∙ get_or-set_other l i j v 0 (omega arith)

-- two runs, one behind the other, are one
pub sets_append : (l : List ℕ) (i : ℕ) (vs ws : List ℕ) → sets l i (vs ++ ws) ≡ sets (sets l i vs) (i + length vs) ws
sets_append l i [] ws = let e : i ≡ i + 0 = omega arith in ap (λ (k : ℕ). sets l k ws) e
sets_append l i (v ∷ vs) ws =
    let e : suc i + length vs ≡ i + suc (length vs) = omega arith in
    sets_append (set l i v) (suc i) vs ws ∙ ap (λ (k : ℕ). sets (sets (set l i v) (suc i) vs) k ws) e

-- a run over another one at the same place: the last is what stays
pub sets_again : (l : List ℕ) (i : ℕ) (vs ws : List ℕ) → length vs ≡ length ws → sets (sets l i vs) i ws ≡ sets l i ws
sets_again l i [] [] e = refl
sets_again l i [] (w ∷ ws) e = refl
sets_again l i (v ∷ vs) [] e = absurd (omega (arith, e))
sets_again l i (v ∷ vs) (w ∷ ws) e =
    ap (λ (m : List ℕ). sets m (suc i) ws) (set_sets (set l i v) i (suc i) vs w (omega arith) ∙ ap (λ (m : List ℕ). sets m (suc i) vs) (set-set l i v w))
    ∙ sets_again (set l i w) (suc i) vs ws (omega (arith, e))

-- a copy over a part of a list is the run of stores from its first place on
pub stored_part : (l : List ℕ) (a n : ℕ) (ys vs : List ℕ) → a + length vs ≤ length l → n ≡ length vs → ys ≡ vs → put_mid a n l ys ≡ sets l a vs
stored_part l a n ys vs h e f =
    let d : drop (length vs) (drop a l) ≡ drop (a + length vs) l = drop-drop (length vs) a l in
    rw (e, f, sets-eq vs l a h, d) (sym (append_assoc (take a l) vs (drop (a + length vs) l)))

-- two runs apart from each other, in either order
pub sets_comm : (l : List ℕ) (i j : ℕ) (vs ws : List ℕ) → i + length vs ≤ j → sets (sets l i vs) j ws ≡ sets (sets l j ws) i vs
sets_comm l i j [] ws h = refl
sets_comm l i j (v ∷ vs) ws h =
    sets_comm (set l i v) (suc i) j vs ws (omega (arith, h))
    ∙ ap (λ (m : List ℕ). sets m (suc i) vs) (sym (set_sets l i j ws v (omega (arith, h))))

-- the same where the run is made under a test alone
module _ (b : Bool) (l : List ℕ) (i : ℕ) (vs : List ℕ) where
  pub length_tested : length (cond b (sets l i vs) l) ≡ length l
  length_tested = elim b as (λ t. length (cond t (sets l i vs) l) ≡ length l) [ false ↦ refl | true ↦ length-sets l i vs ]

  pub before_tested : (j : ℕ) → j < i → get_or (cond b (sets l i vs) l) j 0 ≡ get_or l j 0
  before_tested j h = elim b as (λ t. get_or (cond t (sets l i vs) l) j 0 ≡ get_or l j 0) [ false ↦ refl | true ↦ get_d_sets_before l j i vs h ]

  pub behind_tested : (j : ℕ) → i + length vs ≤ j → get_or (cond b (sets l i vs) l) j 0 ≡ get_or l j 0
  behind_tested j h = elim b as (λ t. get_or (cond t (sets l i vs) l) j 0 ≡ get_or l j 0) [ false ↦ refl | true ↦ get_d_sets_behind l j i vs h ]
