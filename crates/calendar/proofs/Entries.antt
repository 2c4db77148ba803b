-- A list that holds a function's values in order. The table of dates is such a list by computing alone.
use mathlib.Core.Path.{◌≡◌, ap, ◌∙◌}
use mathlib.Core.List.{List, [], ◌∷◌}
use Prim.Native.Nat.{ℕ, zero, suc, ◌+◌, ◌<◌}
use native.Mathlib.Omega.{arith}
use lib.ListN.{get_or}

-- n values, from place i on
abbrev pub values_from : (ℕ → ℕ) → ℕ → ℕ → List ℕ
values_from f i zero = []
values_from f i (suc n) = f i ∷ values_from f (suc i) n

pub value_at_lem : (f : ℕ → ℕ) (i n k : ℕ) → k < n → get_or (values_from f i n) k 0 ≡ f (i + k)
value_at_lem f i zero k h = absurd (omega arith)
value_at_lem f i (suc n) zero h = let e : i ≡ i + 0 = omega arith in ap f e
value_at_lem f i (suc n) (suc k) h =
    let e : suc i + k ≡ i + suc k = omega arith in
    value_at_lem f (suc i) n k (omega (arith, h)) ∙ ap f e
