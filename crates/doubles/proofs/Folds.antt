-- The largest and the smallest of a list without NaN, as `max_of_2` and `min_of_2` find them from the left: the result bounds every
-- member and is one of them. Proved once, of any operation that gives one of its two arguments, the one further along an order. Assumes nothing.
use Rattle.std.proofs.Common.{◌≡◌, Bool, true, false, cond, ◌⊎◌, List, [], ◌∷◌, refl, ◌∙◌, inl, inr}
use mathlib.Core.List.Memᴰ
use mathlib.Core.List.{Memᴰ}
use lib.Ieee.{Float, lt}
use Rattle.doubles.specs.Functions.{min_of2, max_of2, largest_of, smallest_of}
use Rattle.doubles.specs.Order.{◌≼◌, Number}
use Rattle.doubles.proofs.Order.{le_refl, le_trans, lt→le, le_of_not_lt}

infix 4 ◌≽◌
-- every member is a number
abbrev pub Numbers : List Float → Type 0
Numbers xs = (x : Float) → Memᴰ x xs → Number x

-- ---- an operation that gives one of its arguments, the one further along

record Picks (further : Float → Float → Type 0) (op : Float → Float → Float) : Type 0 where
  reflexive : {x : Float} → Number x → further x x
  transitive : {x y z : Float} → further x y → further y z → further x z
  picks : (x y : Float) → (op x y ≡ x) ⊎ (op x y ≡ y)
  past_left : {x y : Float} → Number x → Number y → further x (op x y)
  past_right : {x y : Float} → Number x → Number y → further y (op x y)

module _ (further : Float → Float → Type 0) (op : Float → Float → Float) (𝓟 : Picks further op) where
  fold : Float → List Float → Float
  fold first [] = first
  fold first (x ∷ xs) = fold (op first x) xs

  picked_number : {x y : Float} → Number x → Number y → Number (op x y)
  picked_number {x} {y} m n = elim (𝓟.picks x y) [ inl e ↦ rw e m | inr e ↦ rw e n ]

  fold_member : (first : Float) (xs : List Float) → Memᴰ (fold first xs) (first ∷ xs)
  unfolding fold
  fold_member first [] = Memᴰ.head refl
  fold_member first (x ∷ xs) = step (𝓟.picks first x) (Memᴰ.cases_cons (fold_member (op first x) xs))
    where
      step : (op first x ≡ first) ⊎ (op first x ≡ x) → (fold (op first x) xs ≡ op first x) ⊎ Memᴰ (fold (op first x) xs) xs
          → Memᴰ (fold (op first x) xs) (first ∷ x ∷ xs)
      step p (inr m) = Memᴰ.tail (Memᴰ.tail m)
      step (inl p) (inl e) = Memᴰ.head (e ∙ p)
      step (inr p) (inl e) = Memᴰ.tail (Memᴰ.head (e ∙ p))

  fold_bound : (first : Float) (xs : List Float) → Numbers (first ∷ xs) → (x : Float) → Memᴰ x (first ∷ xs) → further x (fold first xs)
  unfolding fold
  fold_bound first [] n x m = elim (Memᴰ.cases_cons m) [ inl e ↦ rw e (𝓟.reflexive (n first (Memᴰ.head refl))) | inr k ↦ elim k [ ] ]
  fold_bound first (y ∷ ys) n x m = step (fold_bound (op first y) ys rest) (Memᴰ.cases_cons m)
    where
      first_number : Number first
      first_number = n first (Memᴰ.head refl)

      y_number : Number y
      y_number = n y (Memᴰ.tail (Memᴰ.head refl))

      of_rest : (z : Float) → (z ≡ op first y) ⊎ Memᴰ z ys → Number z
      of_rest z (inl e) = rw e (picked_number first_number y_number)
      of_rest z (inr k) = n z (Memᴰ.tail (Memᴰ.tail k))

      rest : Numbers (op first y ∷ ys)
      rest z k = of_rest z (Memᴰ.cases_cons k)

      later : ((z : Float) → Memᴰ z (op first y ∷ ys) → further z (fold (op first y) ys)) → (x ≡ y) ⊎ Memᴰ x ys → further x (fold (op first y) ys)
      later bound (inl e) = rw e (𝓟.transitive (𝓟.past_right first_number y_number) (bound (op first y) (Memᴰ.head refl)))
      later bound (inr k) = bound x (Memᴰ.tail k)

      step : ((z : Float) → Memᴰ z (op first y ∷ ys) → further z (fold (op first y) ys)) → (x ≡ first) ⊎ Memᴰ x (y ∷ ys) → further x (fold (op first y) ys)
      step bound (inl e) = rw e (𝓟.transitive (𝓟.past_left first_number y_number) (bound (op first y) (Memᴰ.head refl)))
      step bound (inr k) = later bound (Memᴰ.cases_cons k)

-- ---- max_of_2 and min_of_2

max_picks : (x y : Float) → (max_of2 x y ≡ x) ⊎ (max_of2 x y ≡ y)
unfolding max_of2
max_picks x y = go (lt y x)
  where
    go : (b : Bool) → (cond b x y ≡ x) ⊎ (cond b x y ≡ y)
    go true = inl refl
    go false = inr refl

min_picks : (x y : Float) → (min_of2 x y ≡ x) ⊎ (min_of2 x y ≡ y)
unfolding min_of2
min_picks x y = go (lt x y)
  where
    go : (b : Bool) → (cond b x y ≡ x) ⊎ (cond b x y ≡ y)
    go true = inl refl
    go false = inr refl

pub max_left : {x y : Float} → Number x → Number y → x ≼ max_of2 x y
unfolding max_of2
max_left {x} {y} m n = go (lt y x) refl
  where
    go : (b : Bool) → lt y x ≡ b → x ≼ cond b x y
    go true e = le_refl m
    go false e = le_of_not_lt n m e

pub max_right : {x y : Float} → Number x → Number y → y ≼ max_of2 x y
unfolding max_of2
max_right {x} {y} m n = go (lt y x) refl
  where
    go : (b : Bool) → lt y x ≡ b → y ≼ cond b x y
    go true e = lt→le (record { holds = rw e tt })
    go false e = le_refl n

pub min_left : {x y : Float} → Number x → Number y → min_of2 x y ≼ x
unfolding min_of2
min_left {x} {y} m n = go (lt x y) refl
  where
    go : (b : Bool) → lt x y ≡ b → cond b x y ≼ x
    go true e = le_refl m
    go false e = le_of_not_lt m n e

pub min_right : {x y : Float} → Number x → Number y → min_of2 x y ≼ y
unfolding min_of2
min_right {x} {y} m n = go (lt x y) refl
  where
    go : (b : Bool) → lt x y ≡ b → cond b x y ≼ y
    go true e = lt→le (record { holds = rw e tt })
    go false e = le_refl n

maximum : Picks ◌≼◌ max_of2
maximum = record { reflexive = le_refl; transitive = le_trans; picks = max_picks; past_left = max_left; past_right = max_right }

abbrev ◌≽◌ : Float → Float → Type 0
x ≽ y = y ≼ x

≽_trans : {x y z : Float} → x ≽ y → y ≽ z → x ≽ z
≽_trans h k = le_trans k h

minimum : Picks ◌≽◌ min_of2
minimum = record { reflexive = le_refl; transitive = ≽_trans; picks = min_picks; past_left = min_left; past_right = min_right }

largest_is : (first : Float) (xs : List Float) → largest_of first xs ≡ fold ◌≼◌ max_of2 maximum first xs
unfolding largest_of fold
largest_is first [] = refl
largest_is first (x ∷ xs) = largest_is (max_of2 first x) xs

smallest_is : (first : Float) (xs : List Float) → smallest_of first xs ≡ fold ◌≽◌ min_of2 minimum first xs
unfolding smallest_of fold
smallest_is first [] = refl
smallest_is first (x ∷ xs) = smallest_is (min_of2 first x) xs

-- it is one of the values
pub largest_member : (first : Float) (xs : List Float) → Memᴰ (largest_of first xs) (first ∷ xs)
largest_member first xs = Memᴰ.cast (largest_is first xs) (fold_member ◌≼◌ max_of2 maximum first xs)

pub smallest_member : (first : Float) (xs : List Float) → Memᴰ (smallest_of first xs) (first ∷ xs)
smallest_member first xs = Memᴰ.cast (smallest_is first xs) (fold_member ◌≽◌ min_of2 minimum first xs)

-- it bounds every value
pub largest_bound : (first : Float) (xs : List Float) → Numbers (first ∷ xs) → (x : Float) → Memᴰ x (first ∷ xs) → x ≼ largest_of first xs
largest_bound first xs n x m = rw (largest_is first xs) (fold_bound ◌≼◌ max_of2 maximum first xs n x m)

pub smallest_bound : (first : Float) (xs : List Float) → Numbers (first ∷ xs) → (x : Float) → Memᴰ x (first ∷ xs) → smallest_of first xs ≼ x
smallest_bound first xs n x m = rw (smallest_is first xs) (fold_bound ◌≽◌ min_of2 minimum first xs n x m)
