-- The loops over objects keep the largest extent so far: what is left of the list, from the value so far, comes to the same as the
-- whole list from 0. Assumes nothing.
use mathlib.Core.Path.{◌≡◌, refl, sym}
use mathlib.Core.Bool.{Bool, true, false, ◌||◌, cond, or-false}
use mathlib.Core.List.{List, [], ◌∷◌}
use Prim.Native.Nat.{ℕ, suc, ◌+◌, ◌<◌}
use native.Mathlib.Numerals.{add-one}
use lib.ListN.{length, get_or, drop}
use lib.Seq.{drop-cons, drop-length}
use lib.Ieee.{Float}
use Rattle.doubles.specs.Functions.{max_of2, float_min, largest_of}
use Rattle.objects.specs.declared.surface.Surface.{Surface}
use Rattle.objects.specs.declared.sectors.ShadingObject.{ShadingObject}
use Rattle.shading.specs.declared.distant.DistantShades.{DistantShades}
use Rattle.objects.specs.declared.window.WindowShadingObject.{WindowShadingObject}
use Rattle.shading.specs.declared.window.WindowShades.{WindowShades}
use Rattle.objects.specs.declared.window.WindowShadingType.TheVariants.{Obstacle, Overhang, SideFinRight, SideFinLeft, Reveal}
use Rattle.objects.specs.Objects.{is_obstacle, is_overhang, of_kind}
use Rattle.shading.specs.declared.sun_on_surface.SunOnSurface.{SunOnSurface}
use Rattle.shading.specs.Factor.{extents, least_of, obstacle_extents, overhang_extents, window_overhang_extents, right_fin_extents, left_fin_extents, has_reveal}
use Rattle.shading.specs.ObjectSteps.{distant_step, window_step}

-- a value kept over a list, one member after the other
record Keeps (keep : Float → List Float → Float) (op : Float → Float → Float) : Type 0 where
  none : (first : Float) → keep first [] ≡ first
  more : (first x : Float) (xs : List Float) → keep first (x ∷ xs) ≡ keep (op first x) xs

module _ (keep : Float → List Float → Float) (op : Float → Float → Float) (𝓚 : Keeps keep op) {Object : Type 0} (kind : Object → Bool) (extent : Object → Float) where
  past : (first : Float) (o : Object) (rest : List Object)
      → keep first (extents kind extent (o ∷ rest)) ≡ keep (cond (kind o) (op first (extent o)) first) (extents kind extent rest)
  unfolding extents
  past first o rest = go (kind o)
    where
      go : (b : Bool)
          → keep first (cond b (extent o ∷ extents kind extent rest) (extents kind extent rest)) ≡ keep (cond b (op first (extent o)) first) (extents kind extent rest)
      go true = 𝓚.more first (extent o) (extents kind extent rest)
      go false = refl

  next : (first : Float) (l : List Object) (i : ℕ) (d : Object) → i < length l
      → keep first (extents kind extent (drop i l)) ≡ keep (cond (kind (get_or l i d)) (op first (extent (get_or l i d))) first) (extents kind extent (drop (i + 1) l))
  next first l i d h = rw (drop-cons l i d h, add-one i) (past first (get_or l i d) (drop (suc i) l))

  end : (first : Float) (l : List Object) → keep first (extents kind extent (drop (length l) l)) ≡ first
  unfolding extents
  end first l = rw (drop-length l) (𝓚.none first)

largest : Keeps largest_of max_of2
unfolding largest_of
largest = record { none = λ first. refl; more = λ first x xs. refl }

least : Keeps least_of float_min
unfolding least_of
least = record { none = λ first. refl; more = λ first x xs. refl }

-- ---- a sector's objects

module _ (surface : Surface) (sun : SunOnSurface) (shades : DistantShades) (objects : List ShadingObject) (i : ℕ) (d : ShadingObject) (h : i < length objects) where
  pub obstacle_next : largest_of (distant_step surface sun shades (get_or objects i d)).obstacle (obstacle_extents surface sun (drop (i + 1) objects))
      ≡ largest_of shades.obstacle (obstacle_extents surface sun (drop i objects))
  unfolding distant_step obstacle_extents
  obstacle_next = sym (next largest_of max_of2 largest is_obstacle _ shades.obstacle objects i d h)

  pub overhang_next : largest_of (distant_step surface sun shades (get_or objects i d)).overhang (overhang_extents surface sun (drop (i + 1) objects))
      ≡ largest_of shades.overhang (overhang_extents surface sun (drop i objects))
  unfolding distant_step overhang_extents
  overhang_next = sym (next largest_of max_of2 largest is_overhang _ shades.overhang objects i d h)

module _ (surface : Surface) (sun : SunOnSurface) (first : Float) (l : List ShadingObject) (i : ℕ) (e : i ≡ length l) where
  pub obstacle_end : largest_of first (obstacle_extents surface sun (drop i l)) ≡ first
  unfolding obstacle_extents
  obstacle_end = rw e (end largest_of max_of2 largest is_obstacle _ first l)

  pub overhang_end : largest_of first (overhang_extents surface sun (drop i l)) ≡ first
  unfolding overhang_extents
  overhang_end = rw e (end largest_of max_of2 largest is_overhang _ first l)

-- ---- the objects at the window

module _ (sun : SunOnSurface) (shades : WindowShades) (objects : List WindowShadingObject) (i : ℕ) (d : WindowShadingObject) (h : i < length objects) where
  pub window_overhang_next : largest_of (window_step sun shades (get_or objects i d)).overhang (window_overhang_extents sun (drop (i + 1) objects))
      ≡ largest_of shades.overhang (window_overhang_extents sun (drop i objects))
  unfolding window_step window_overhang_extents
  window_overhang_next = sym (next largest_of max_of2 largest (of_kind Overhang) _ shades.overhang objects i d h)

  pub right_next : largest_of (window_step sun shades (get_or objects i d)).right (right_fin_extents sun (drop (i + 1) objects))
      ≡ largest_of shades.right (right_fin_extents sun (drop i objects))
  unfolding window_step right_fin_extents
  right_next = sym (next largest_of max_of2 largest (of_kind SideFinRight) _ shades.right objects i d h)

  pub left_next : largest_of (window_step sun shades (get_or objects i d)).left (left_fin_extents sun (drop (i + 1) objects))
      ≡ largest_of shades.left (left_fin_extents sun (drop i objects))
  unfolding window_step left_fin_extents
  left_next = sym (next largest_of max_of2 largest (of_kind SideFinLeft) _ shades.left objects i d h)

  pub reveal_next : (window_step sun shades (get_or objects i d)).reveal || has_reveal (drop (i + 1) objects) ≡ shades.reveal || has_reveal (drop i objects)
  unfolding window_step has_reveal
  reveal_next =
      rw (drop-cons objects i d h, add-one i) (go (of_kind Reveal (get_or objects i d)) shades.reveal (has_reveal (drop (suc i) objects)))
    where
      go : (b r t : Bool) → cond b true r || t ≡ r || (b || t)
      go true true t = refl
      go true false t = refl
      go false true t = refl
      go false false t = refl

module _ (sun : SunOnSurface) (first : Float) (l : List WindowShadingObject) (i : ℕ) (e : i ≡ length l) where
  pub window_overhang_end : largest_of first (window_overhang_extents sun (drop i l)) ≡ first
  unfolding window_overhang_extents
  window_overhang_end = rw e (end largest_of max_of2 largest (of_kind Overhang) _ first l)

  pub right_end : largest_of first (right_fin_extents sun (drop i l)) ≡ first
  unfolding right_fin_extents
  right_end = rw e (end largest_of max_of2 largest (of_kind SideFinRight) _ first l)

  pub left_end : largest_of first (left_fin_extents sun (drop i l)) ≡ first
  unfolding left_fin_extents
  left_end = rw e (end largest_of max_of2 largest (of_kind SideFinLeft) _ first l)

pub reveal_end : (b : Bool) (l : List WindowShadingObject) (i : ℕ) → i ≡ length l → b || has_reveal (drop i l) ≡ b
unfolding has_reveal
reveal_end b l i e = rw (e, drop-length l) (or-false b)

-- ---- the near obstacles at the window

module _ (extent : WindowShadingObject → Float) (first : Float) (objects : List WindowShadingObject) (i : ℕ) where
  pub near_next : (d : WindowShadingObject) → i < length objects
      → least_of (cond (of_kind Obstacle (get_or objects i d)) (float_min first (extent (get_or objects i d))) first) (extents (of_kind Obstacle) extent (drop (i + 1) objects))
      ≡ least_of first (extents (of_kind Obstacle) extent (drop i objects))
  near_next d h = sym (next least_of float_min least (of_kind Obstacle) extent first objects i d h)

  pub near_end : i ≡ length objects → least_of first (extents (of_kind Obstacle) extent (drop i objects)) ≡ first
  near_end e = rw e (end least_of float_min least (of_kind Obstacle) extent first objects)
