-- Lists of doubles that are put together from parts, and the largest from 0 on. Assumes nothing.
use Rattle.std.proofs.Common.{◌≡◌, ◌⊎◌, List, [], ◌∷◌, ◌++◌, refl, inl, inr}
use mathlib.Core.List.Memᴰ
use mathlib.Core.List.{Memᴰ}
use lib.Ieee.{Float}
use Rattle.doubles.specs.Arithmetic.{whole}
use Rattle.doubles.specs.Functions.{max_of2, largest_of}
use Rattle.doubles.specs.Order.{◌≼◌, Number}
use Rattle.doubles.proofs.Order.{le_trans}
use Rattle.doubles.proofs.Bounds.{zero_number}
use Rattle.doubles.proofs.Folds.{Numbers, largest_member, largest_bound}

pub cons_numbers : (first : Float) {xs : List Float} → Number first → Numbers xs → Numbers (first ∷ xs)
cons_numbers first n h x m = elim (Memᴰ.cases_cons m) [ inl e ↦ rw e n | inr k ↦ h x k ]

pub append_numbers : (xs ys : List Float) → Numbers xs → Numbers ys → Numbers (xs ++ ys)
append_numbers xs ys h k x m = elim (Memᴰ.append_cases xs m) [ inl a ↦ h x a | inr b ↦ k x b ]

-- some member of ys is no smaller than x
pub record Reached (ys : List Float) (x : Float) : Type 0 where
  pub by : Float
  pub member : Memᴰ by ys
  pub above : x ≼ by

-- every member of xs that is above 0 is reached so
abbrev pub AllReached : List Float → List Float → Type 0
AllReached xs ys = (x : Float) → Memᴰ x xs → (x ≼ whole 0) ⊎ Reached ys x

reached_left : {xs : List Float} (ys : List Float) {x : Float} → (x ≼ whole 0) ⊎ Reached xs x → (x ≼ whole 0) ⊎ Reached (xs ++ ys) x
reached_left ys (inl h) = inl h
reached_left ys (inr r) = inr (record { by = r.by; member = Memᴰ.append_left ys r.member; above = r.above })

reached_right : (xs : List Float) {ys : List Float} {x : Float} → (x ≼ whole 0) ⊎ Reached ys x → (x ≼ whole 0) ⊎ Reached (xs ++ ys) x
reached_right xs (inl h) = inl h
reached_right xs (inr r) = inr (record { by = r.by; member = Memᴰ.append_right xs r.member; above = r.above })

pub append_reached : (xs ys xs' ys' : List Float) → AllReached xs xs' → AllReached ys ys' → AllReached (xs ++ ys) (xs' ++ ys')
append_reached xs ys xs' ys' h k x m =
    elim (Memᴰ.append_cases xs m) [ inl a ↦ reached_left ys' (h x a) | inr b ↦ reached_right xs' (k x b) ]

-- the largest of two lists, one after the other
pub largest_append : (first : Float) (xs ys : List Float) → largest_of first (xs ++ ys) ≡ largest_of (largest_of first xs) ys
unfolding largest_of
largest_append first [] ys = refl
largest_append first (x ∷ xs) ys = largest_append (max_of2 first x) xs ys

-- ---- the largest, from 0 on

pub largest_nonneg : (xs : List Float) → Numbers xs → whole 0 ≼ largest_of (whole 0) xs
largest_nonneg xs n = largest_bound (whole 0) xs (cons_numbers (whole 0) zero_number n) (whole 0) (Memᴰ.head refl)

-- where every member is reached, the largest is
pub largest_grows : (xs ys : List Float) → Numbers ys → AllReached xs ys → largest_of (whole 0) xs ≼ largest_of (whole 0) ys
largest_grows xs ys n h = go (largest_of (whole 0) xs) (Memᴰ.cases_cons (largest_member (whole 0) xs))
  where
    reached : {x : Float} → (x ≼ whole 0) ⊎ Reached ys x → x ≼ largest_of (whole 0) ys
    reached (inl l) = le_trans l (largest_nonneg ys n)
    reached (inr r) = le_trans r.above (largest_bound (whole 0) ys (cons_numbers (whole 0) zero_number n) r.by (Memᴰ.tail r.member))

    go : (x : Float) → (x ≡ whole 0) ⊎ Memᴰ x xs → x ≼ largest_of (whole 0) ys
    go x (inl e) = rw e (largest_nonneg ys n)
    go x (inr m) = reached (h x m)
