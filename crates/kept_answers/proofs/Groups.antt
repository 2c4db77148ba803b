-- The functions' groups, one behind the other.
use Rattle.std.proofs.Common.{◌≡◌, ℕ, zero, suc, ◌+◌, ◌-◌, ◌<◌, ◌≤◌, List, [], ◌∷◌, ◌++◌, length, get_or, sym, refl, ap, ◌∙◌, arith, get_or-append-add}
use lib.ListN.{get_or-append}
use lib.Ieee.{Float, nan}
use Rattle.kept_answers.specs.Leaves.{angle_values, number_values, sun_values, sky_values, leaf_of}

-- ---- a number that is none of a group's

pub beyond : {k : ℕ} (n : ℕ) → n ≤ k → (k ≡ n → ⊥) → n + 1 ≤ k
beyond n h e = omega (arith, h, e)

pub above_zero_lem : {k : ℕ} → (k ≡ 0 → ⊥) → 1 ≤ k
above_zero_lem e = omega (arith, e)

past_end : (l : List Float) (k : ℕ) → length l ≤ k → get_or l k nan ≡ nan
past_end [] k h = refl
past_end (a ∷ l) zero h = absurd (omega (arith, h))
past_end (a ∷ l) (suc k) h = past_end l k (omega (arith, h))

pub angle_none : (x : Float) (k : ℕ) → (1 ≤ k → 8 ≤ k) → get_or (angle_values x) k nan ≡ nan
unfolding angle_values
angle_none x zero h = refl
angle_none x (suc k) h = past_end (angle_values x) (suc k) (h (omega arith))

pub number_none : (x y : Float) (k : ℕ) → 8 ≤ k → get_or (number_values x y) k nan ≡ nan
unfolding number_values
number_none x y k h = past_end (number_values x y) k h

module _ (x y z : Float) where
  pub sun_none : (k : ℕ) → 6 ≤ k → get_or (sun_values x y z) k nan ≡ nan
  unfolding sun_values
  sun_none k h = past_end (sun_values x y z) k h

  pub sky_none : (k : ℕ) → 4 ≤ k → get_or (sky_values x y z) k nan ≡ nan
  unfolding sky_values
  sky_none k h = past_end (sky_values x y z) k h

-- ---- the groups' places in the list of all

behind : (l m : List Float) (k n : ℕ) → length l ≡ k → k ≤ n → get_or (l ++ m) n nan ≡ get_or m (n - k) nan
behind l m k n e h = let z : n ≡ length l + (n - k) = omega (arith, e, h) in ap (λ i. get_or (l ++ m) i nan) z ∙ get_or-append-add l m (n - k) nan

module _ (x y z : Float) where
  angles_are : length (angle_values x) ≡ 8
  unfolding angle_values
  angles_are = refl

  numbers_are : length (number_values x y) ≡ 8
  unfolding number_values
  numbers_are = refl

  sun_are : length (sun_values x y z) ≡ 6
  unfolding sun_values
  sun_are = refl

  behind_angles : (n : ℕ) → 8 ≤ n → leaf_of n x y z ≡ get_or (number_values x y ++ (sun_values x y z ++ sky_values x y z)) (n - 8) nan
  unfolding leaf_of
  behind_angles n h = behind (angle_values x) (number_values x y ++ (sun_values x y z ++ sky_values x y z)) 8 n angles_are h

  behind_numbers : (n : ℕ) → 16 ≤ n → leaf_of n x y z ≡ get_or (sun_values x y z ++ sky_values x y z) (n - 16) nan
  behind_numbers n h =
      let e : n - 8 - 8 ≡ n - 16 = omega (arith, h) in
      behind_angles n (omega (arith, h))
      ∙ behind (number_values x y) (sun_values x y z ++ sky_values x y z) 8 (n - 8) numbers_are (omega (arith, h))
      ∙ ap (λ i. get_or (sun_values x y z ++ sky_values x y z) i nan) e

  pub angle_leaf : (n : ℕ) → n < 8 → get_or (angle_values x) n nan ≡ leaf_of n x y z
  unfolding leaf_of
  angle_leaf n h = let e = angles_are in sym (get_or-append (angle_values x) (number_values x y ++ (sun_values x y z ++ sky_values x y z)) nan n (omega (arith, h, e)))

  pub number_leaf : (n : ℕ) → 8 ≤ n → n < 16 → get_or (number_values x y) (n - 8) nan ≡ leaf_of n x y z
  number_leaf n h k =
      let e = numbers_are in
      sym (behind_angles n h ∙ get_or-append (number_values x y) (sun_values x y z ++ sky_values x y z) nan (n - 8) (omega (arith, h, k, e)))

  pub sun_leaf : (n : ℕ) → 16 ≤ n → n < 22 → get_or (sun_values x y z) (n - 16) nan ≡ leaf_of n x y z
  sun_leaf n h k =
      let e = sun_are in
      sym (behind_numbers n h ∙ get_or-append (sun_values x y z) (sky_values x y z) nan (n - 16) (omega (arith, h, k, e)))

  pub sky_leaf : (n : ℕ) → 22 ≤ n → get_or (sky_values x y z) (n - 22) nan ≡ leaf_of n x y z
  sky_leaf n h =
      let e : n - 16 - 6 ≡ n - 22 = omega (arith, h) in
      sym (behind_numbers n (omega (arith, h)) ∙ behind (sun_values x y z) (sky_values x y z) 6 (n - 16) sun_are (omega (arith, h)) ∙ ap (λ i. get_or (sky_values x y z) i nan) e)
