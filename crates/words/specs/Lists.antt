-- What holds of a list place by place.
use Rattle.std.specs.Prelude.{Bool, true, ◌&&◌, List, [], ◌∷◌, ℕ, zero, suc}

-- the first n places are fine
unfoldable pub first_fine : (ℕ → Bool) → ℕ → Bool
first_fine fine zero = true
first_fine fine (suc n) = fine n && first_fine fine n

-- equally long lists whose members at the same place are related
pub data PlaceByPlace {X : Type 0} (R : X → X → Type 0) : List X → List X → Type 0 where
  none : PlaceByPlace R [] []
  and_then : {x y : X} {xs ys : List X} → R x y → PlaceByPlace R xs ys → PlaceByPlace R (x ∷ xs) (y ∷ ys)
