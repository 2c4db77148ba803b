-- A series that is worked out by a loop over a table, which has what each step needs, the last step first.
use Rattle.std.proofs.Common.{◌≡◌, ℕ, zero, suc, ◌+◌, ◌-◌, ◌<◌, ◌≤◌, List, [], ◌∷◌, slice_index_or, sym, ap, ◌∙◌, arith}
use lib.Ieee.{Float}
use Rattle.doubles.specs.Series.{horner}

-- what the steps from n down to 1 need
abbrev pub steps_down : {A : Type 0} → (ℕ → A) → ℕ → List A
steps_down f zero = []
steps_down f (suc n) = f (suc n) ∷ steps_down f n

pub step_at : {A : Type 0} (f : ℕ → A) (d : A) (n i : ℕ) → i < n → slice_index_or (steps_down f n) i d ≡ f (n - i)
step_at f d zero i h = absurd (omega arith)
step_at f d (suc n) zero h = let e : suc n ≡ suc n - 0 = omega arith in ap f e
step_at f d (suc n) (suc i) h =
    let l : i < n = omega arith in
    let e : n - i ≡ suc n - suc i = omega arith in
    step_at f d n i l ∙ ap f e

-- a turn of the loop, and its end
pub horner_turn : (step : ℕ → Float → Float) (n i : ℕ) (h r : Float) → i < n → horner step (n - i) h ≡ r → horner step (n - (i + 1)) (step (n - i) h) ≡ r
unfolding horner
horner_turn step n i h r l e =
    let s : suc (n - (i + 1)) ≡ n - i = omega arith in
    ap (λ (k : ℕ). horner step (n - (i + 1)) (step k h)) (sym s) ∙ ap (λ (k : ℕ). horner step k h) s ∙ e

pub horner_end : (step : ℕ → Float → Float) (n i : ℕ) (h r : Float) → n ≤ i → horner step (n - i) h ≡ r → h ≡ r
unfolding horner
horner_end step n i h r l e = let z : 0 ≡ n - i = omega arith in ap (λ (k : ℕ). horner step k h) z ∙ e
