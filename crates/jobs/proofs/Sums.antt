-- Sums from 0, in order, of all or some values that are not negative, and of such values times factors from 0 to 1: they keep the order. Assumes
-- nothing.
use mathlib.Core.Path.{◌≡◌, refl, ap₂, subst}
use mathlib.Core.Bool.{Bool, true, false, cond}
use Prim.Native.Nat.{ℕ, zero, suc, ◌<◌}
use native.Mathlib.Omega.{arith}
use lib.Ieee.{Float}
use Rattle.doubles.specs.Arithmetic.{◌⊕◌, ◌⊗◌, whole}
use Rattle.doubles.specs.Order.{◌≼◌, Number, Finite, Fits}
use Rattle.doubles.proofs.Order.{le_refl, le_trans, finite_number}
use Rattle.doubles.proofs.Monotone.{add_mono, mul_mono}
use Rattle.doubles.proofs.Bounds.{zero_number, finite_zero, add_nonneg_number, add_nonneg, mul-number, mul_nonneg, zero-le_one}
use Rattle.doubles.proofs.Differences.{between_finite}
use Rattle.doubles.proofs.Exact.{one_times}

-- ---- sums

-- of those of the first n values that are chosen, from 0
unfoldable pub total : (ℕ → Bool) → (ℕ → Float) → ℕ → Float
total chosen x zero = whole 0
total chosen x (suc n) = cond (chosen n) (total chosen x n ⊕ x n) (total chosen x n)

pub total_same : (chosen : ℕ → Bool) (x y : ℕ → Float) (n : ℕ) → ((i : ℕ) → i < n → x i ≡ y i) → total chosen x n ≡ total chosen y n
unfolding total
total_same chosen x y zero h = refl
total_same chosen x y (suc n) h =
    ap₂ (λ (s t : Float). cond (chosen n) (s ⊕ t) s) (total_same chosen x y n (λ i l. h i (omega arith))) (h n (omega arith))

pub total_nonneg : (chosen : ℕ → Bool) (x : ℕ → Float) (n : ℕ) → ((i : ℕ) → i < n → whole 0 ≼ x i) → whole 0 ≼ total chosen x n
unfolding total
total_nonneg chosen x zero h = le_refl zero_number
total_nonneg chosen x (suc n) h =
    let rest : whole 0 ≼ total chosen x n = total_nonneg chosen x n (λ i l. h i (omega arith)) in
    go (chosen n) rest (add_nonneg rest (h n (omega arith)))
  where
    go : (b : Bool) {s t : Float} → whole 0 ≼ s → whole 0 ≼ t → whole 0 ≼ cond b t s
    go true old more = more
    go false old more = old

pub total_mono : (chosen : ℕ → Bool) (x y : ℕ → Float) (n : ℕ) → ((i : ℕ) → i < n → whole 0 ≼ x i) → ((i : ℕ) → i < n → x i ≼ y i)
    → total chosen x n ≼ total chosen y n
unfolding total
total_mono chosen x y zero h k = le_refl zero_number
total_mono chosen x y (suc n) h k =
    let low : whole 0 ≼ total chosen x n = total_nonneg chosen x n (λ i l. h i (omega arith)) in
    let rest : total chosen x n ≼ total chosen y n = total_mono chosen x y n (λ i l. h i (omega arith)) (λ i l. k i (omega arith)) in
    let last : x n ≼ y n = k n (omega arith) in
    let first : whole 0 ≼ x n = h n (omega arith) in
    go (chosen n) rest (add_mono rest last (add_nonneg_number low first) (add_nonneg_number (le_trans low rest) (le_trans first last)))
  where
    go : (b : Bool) {s t u v : Float} → s ≼ t → u ≼ v → cond b u s ≼ cond b v t
    go true old more = more
    go false old more = old

-- ---- a factor times a value, and both times a step

-- from 0 to 1
pub record Part (f : Float) : Type 0 where
  pub low : whole 0 ≼ f
  pub high : f ≼ whole 1

-- finite and not negative
pub record Amount (d : Float) : Type 0 where
  pub finite : Finite d
  pub low : whole 0 ≼ d

one_finite : Finite (whole 1)
unfolding whole
one_finite = record { holds = tt }

-- a part as an amount
part_amount : {f : Float} → Part f → Amount f
part_amount p = record { finite = between_finite finite_zero one_finite p.low p.high; low = p.low }

module _ {d s : Float} (a : Amount d) (b : Amount s) where
  times_number : Number (d ⊗ s)
  times_number = mul-number a.finite b.finite

  pub times_nonneg : whole 0 ≼ d ⊗ s
  times_nonneg = mul_nonneg a.low b.low times_number

pub times_mono : {d e s : Float} → Amount d → Amount e → Amount s → d ≼ e → d ⊗ s ≼ e ⊗ s
times_mono a b c h = mul_mono a.low c.low h (le_refl (finite_number c.finite)) (times_number a c) (times_number b c)

whole_part : Part (whole 1)
whole_part = record { low = zero-le_one; high = le_refl (finite_number one_finite) }

-- a larger part is no less
pub part_mono : {f g d : Float} → Part f → Part g → Amount d → g ≼ f → g ⊗ d ≼ f ⊗ d
part_mono p q a h = times_mono (part_amount q) (part_amount p) a h

module _ {f d : Float} (p : Part f) (a : Amount d) (fits : Fits d) where
  -- no part is more than the whole
  pub part_le : f ⊗ d ≼ d
  part_le = subst (λ (x : Float). f ⊗ d ≼ x) (one_times fits) (part_mono whole_part p a p.high)

  -- so it is finite
  pub part_of : Amount (f ⊗ d)
  part_of =
      let low : whole 0 ≼ f ⊗ d = times_nonneg (part_amount p) a in
      record { finite = between_finite finite_zero a.finite low part_le; low = low }
