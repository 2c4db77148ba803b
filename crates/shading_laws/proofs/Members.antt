-- Extents as members of their lists: an extent is there where its object is. And lists related place by place. Assumes nothing.
use mathlib.Core.Path.{◌≡◌, refl, sym, ap, ◌∙◌, subst}
use mathlib.Core.Logic.{◌⊎◌, inl, inr}
use mathlib.Core.Bool.{Bool, true, false, cond}
use mathlib.Core.List.Memᴰ
use mathlib.Core.List.{List, [], ◌∷◌, ◌++◌, Memᴰ}
use lib.Dec.{T}
use lib.Ieee.{Float}
use Rattle.doubles.specs.Arithmetic.{whole}
use Rattle.doubles.specs.Functions.{min_of2, smallest_of}
use Rattle.doubles.specs.Order.{◌≼◌, Number}
use Rattle.doubles.proofs.Order.{left_number}
use Rattle.doubles.proofs.Folds.{Numbers, min_left}
use Rattle.doubles.proofs.Lists.{Reached, AllReached}
use Rattle.words.specs.Lists.{PlaceByPlace, none, and_then}
use Rattle.shading.specs.Factor.{extents, least_of}
use Rattle.doubles.proofs.MinMax.{float_min_is}

-- an extent of a list is that of one of its objects
pub record Extent {Object : Type 0} (kind : Object → Bool) (extent : Object → Float) (xs : List Object) (x : Float) : Type 0 where
  pub object : Object
  pub member : Memᴰ object xs
  pub of_kind_lem : T (kind object)
  pub value : x ≡ extent object

-- an object of ys, of a kind, whose extent is no smaller than o's
pub record Matched {Object : Type 0} (kind : Object → Bool) (extent : Object → Float) (ys : List Object) (o : Object) : Type 0 where
  pub object : Object
  pub member : Memᴰ object ys
  pub of_kind_lem : T (kind object)
  pub above : extent o ≼ extent object

module _ {Object : Type 0} (kind : Object → Bool) (extent : Object → Float) where
  pub extents_from : (xs : List Object) (x : Float) → Memᴰ x (extents kind extent xs) → Extent kind extent xs x
  unfolding extents
  extents_from [] x m = absurd (Memᴰ.not-nil m)
  extents_from (o ∷ rest) x m = go (kind o) refl m (extents_from rest x)
    where
      later : Extent kind extent rest x → Extent kind extent (o ∷ rest) x
      later e = record { object = e.object; member = Memᴰ.tail e.member; of_kind_lem = e.of_kind_lem; value = e.value }

      go : (b : Bool) → kind o ≡ b → Memᴰ x (cond b (extent o ∷ extents kind extent rest) (extents kind extent rest))
          → (Memᴰ x (extents kind extent rest) → Extent kind extent rest x) → Extent kind extent (o ∷ rest) x
      go false e m f = later (f m)
      go true e m f =
          elim (Memᴰ.cases_cons m) [
            | inl v ↦ record { object = o; member = Memᴰ.head refl; of_kind_lem = rw e tt; value = v }
            | inr k ↦ later (f k)
          ]

  pub extents_into : (xs : List Object) (o : Object) → Memᴰ o xs → T (kind o) → Memᴰ (extent o) (extents kind extent xs)
  unfolding extents
  extents_into [] o m t = absurd (Memᴰ.not-nil m)
  extents_into (p ∷ rest) o m t = go (kind p) refl (Memᴰ.cases_cons m) (λ k. extents_into rest o k t)
    where
      go : (b : Bool) → kind p ≡ b → (o ≡ p) ⊎ Memᴰ o rest → (Memᴰ o rest → Memᴰ (extent o) (extents kind extent rest))
          → Memᴰ (extent o) (cond b (extent p ∷ extents kind extent rest) (extents kind extent rest))
      go true e (inl s) f = Memᴰ.head (ap extent s)
      go true e (inr k) f = Memᴰ.tail (f k)
      go false e (inl s) f = absurd (subst T (ap kind s ∙ e) t)
      go false e (inr k) f = f k

  -- where every object of xs has one in ys with no smaller an extent, or an extent that is not above 0, every extent is reached
  pub extents_reached : (xs ys : List Object) → ((o : Object) → Memᴰ o xs → T (kind o) → (extent o ≼ whole 0) ⊎ Matched kind extent ys o)
      → AllReached (extents kind extent xs) (extents kind extent ys)
  extents_reached xs ys h x m = go (extents_from xs x m)
    where
      reached : {o : Object} → x ≡ extent o → (extent o ≼ whole 0) ⊎ Matched kind extent ys o → (x ≼ whole 0) ⊎ Reached (extents kind extent ys) x
      reached e (inl l) = inl (rw e l)
      reached e (inr p) = inr (record { by = extent p.object; member = extents_into ys p.object p.member p.of_kind_lem; above = rw e p.above })

      go : Extent kind extent xs x → (x ≼ whole 0) ⊎ Reached (extents kind extent ys) x
      go e = reached e.value (h e.object e.member e.of_kind_lem)

-- ---- lists related place by place

-- one of ys to which x is related
pub record Partner {X : Type 0} (R : X → X → Type 0) (ys : List X) (x : X) : Type 0 where
  pub other : X
  pub member : Memᴰ other ys
  pub related : R x other

pub partner : {X : Type 0} {R : X → X → Type 0} {xs ys : List X} → PlaceByPlace R xs ys → (x : X) → Memᴰ x xs → Partner R ys x
partner none x m = absurd (Memᴰ.not-nil m)
partner {R = R} (and_then {x = y} {y = z} r p) x m =
    elim (Memᴰ.cases_cons m) [
      | inl e ↦ record { other = z; member = Memᴰ.head refl; related = subst (λ w. R w z) (sym e) r }
      | inr k ↦ let q = partner p x k in record { other = q.other; member = Memᴰ.tail q.member; related = q.related }
    ]

-- a list beside itself
kept : {X : Type 0} {R : X → X → Type 0} → ((x : X) → R x x) → (xs : List X) → PlaceByPlace R xs xs
kept same [] = none
kept same (x ∷ xs) = and_then (same x) (kept same xs)

-- what follows for members at the same place
pub map_places : {X : Type 0} {R S : X → X → Type 0} {xs ys : List X} → ((x y : X) → Memᴰ x xs → Memᴰ y ys → R x y → S x y) → PlaceByPlace R xs ys → PlaceByPlace S xs ys
map_places f none = none
map_places f (and_then {x = x} {y = y} r p) =
    and_then (f x y (Memᴰ.head refl) (Memᴰ.head refl) r) (map_places (λ v w i j. f v w (Memᴰ.tail i) (Memᴰ.tail j)) p)

-- one member changed, at any place
pub one_changed : {X : Type 0} {R : X → X → Type 0} → ((x : X) → R x x) → (xs : List X) (x y : X) (ys : List X) → R x y → PlaceByPlace R (xs ++ x ∷ ys) (xs ++ y ∷ ys)
one_changed same [] x y ys r = and_then r (kept same ys)
one_changed same (z ∷ xs) x y ys r = and_then (same z) (one_changed same xs x y ys r)

-- where each object of xs has a partner of its kind with no smaller an extent, or an extent that is not above 0
module _ {Object : Type 0} (kind : Object → Bool) (extent : Object → Float) {R : Object → Object → Type 0} (xs ys : List Object)
    (numbers : Numbers (extents kind extent xs)) (others : Numbers (extents kind extent ys))
    (moves : (o p : Object) → R o p → T (kind o) → Number (extent o) → (T (kind p) → Number (extent p)) → T (kind p) × ((extent o ≼ whole 0) ⊎ (extent o ≼ extent p)))
    (partners : (o : Object) → Memᴰ o xs → Partner R ys o) where
  pub partners_reach : AllReached (extents kind extent xs) (extents kind extent ys)
  partners_reach = extents_reached kind extent xs ys (λ o m t. go o m t (partners o m))
    where
      matched : {o p : Object} → Memᴰ p ys → T (kind p) × ((extent o ≼ whole 0) ⊎ (extent o ≼ extent p)) → (extent o ≼ whole 0) ⊎ Matched kind extent ys o
      matched {o} {p} k r = elim r.1 [ inl l ↦ inl l | inr l ↦ inr (record { object = p; member = k; of_kind_lem = r.0; above = l }) ]

      go : (o : Object) → Memᴰ o xs → T (kind o) → Partner R ys o → (extent o ≼ whole 0) ⊎ Matched kind extent ys o
      go o m t q =
          matched {o = o} {p = q.other} q.member
          (moves o q.other q.related t (numbers (extent o) (extents_into kind extent xs o m t))
          (λ s. others (extent q.other) (extents_into kind extent ys q.other q.member s)))

-- ---- the least, by the float method: of numbers it is the smallest

pub least_is : (first : Float) (xs : List Float) → Number first → Numbers xs → least_of first xs ≡ smallest_of first xs
unfolding least_of smallest_of
least_is first [] n h = refl
least_is first (x ∷ xs) n h =
    let k : Number x = h x (Memᴰ.head refl) in
    ap (λ (y : Float). least_of y xs) (float_min_is n k) ∙ least_is (min_of2 first x) xs (left_number (min_left n k)) (λ y m. h y (Memᴰ.tail m))
