-- The loops over strips: what is left of the strips, from the values so far, comes to the same as all of them from the first. Assumes
-- nothing.
use Rattle.std.specs.Prelude.{Err, Float, Ok, Result}
use mathlib.Core.Path.{◌≡◌, refl, sym, ap, ◌∙◌}
use mathlib.Core.Bool.{Bool, true, false, ◌&&◌}
use mathlib.Core.List.{List, [], ◌∷◌}
use Prim.Native.Nat.{ℕ, suc, ◌+◌, ◌-◌, ◌<◌, ◌≤◌}
use native.Mathlib.Numerals.{add-one}
use native.Mathlib.Omega.{arith}
use lib.Ieee.{Float}
use Rattle.doubles.specs.Arithmetic.{◌⊕◌, ◌⊗◌, ◌⊘◌}
use Rattle.words.specs.Words.{word_count, double_at}
use Rattle.objects.specs.declared.surface.Surface.{Surface}
use Rattle.objects.specs.declared.answers.Refusal.{Refusal}
use Rattle.objects.specs.Records.{records_from}
use Rattle.objects.specs.Surface.{surface_fine}
use Rattle.strips.specs.declared.glazing.TallGlazing.{TallGlazing}
use Rattle.strips.specs.Strips.{strip_of, strips_from, heights_of, strips_of, all_fine, on_factor, mean_from}

-- the strips from the i-th of n on, the i-th on a base
unfoldable pub strips_left : TallGlazing → List ℕ → ℕ → ℕ → Float → List Surface
strips_left glazing heights n i base = strips_from glazing base (records_from (double_at heights) i (n - i))

-- before the first strip
pub left_all : (glazing : TallGlazing) (heights : List ℕ) (n : ℕ) → n ≡ word_count heights → strips_left glazing heights n 0 glazing.base_height ≡ strips_of glazing heights
unfolding strips_left strips_of heights_of
left_all glazing heights n e =
    let none : n - 0 ≡ n = omega arith in
    rw (none, e) refl

module _ (glazing : TallGlazing) (heights : List ℕ) (n i : ℕ) (base : Float) where
  left_next : i < n → strips_left glazing heights n i base ≡ strip_of glazing base (double_at heights i) ∷ strips_left glazing heights n (i + 1) (base ⊕ double_at heights i)
  unfolding strips_left records_from strips_from
  left_next h =
      let one : n - i ≡ suc (n - (i + 1)) = omega arith in
      rw (one, add-one i) refl

  left_none : n ≤ i → strips_left glazing heights n i base ≡ []
  unfolding strips_left records_from strips_from
  left_none h =
      let none : n - i ≡ 0 = omega arith in
      rw none refl

  -- ---- the check

  pub fine_next : (fine : Bool) → i < n
      → (fine && surface_fine (strip_of glazing base (double_at heights i))) && all_fine (strips_left glazing heights n (i + 1) (base ⊕ double_at heights i))
      ≡ fine && all_fine (strips_left glazing heights n i base)
  unfolding all_fine
  fine_next fine h = rw (left_next h) (go fine (surface_fine (strip_of glazing base (double_at heights i))) (all_fine (strips_left glazing heights n (i + 1) (base ⊕ double_at heights i))))
    where
      go : (b c d : Bool) → (b && c) && d ≡ b && (c && d)
      go true c d = refl
      go false c d = refl

  pub fine_end : (fine : Bool) → n ≤ i → fine && all_fine (strips_left glazing heights n i base) ≡ fine
  unfolding all_fine
  fine_end fine h = rw (left_none h) (go fine)
    where
      go : (b : Bool) → b && true ≡ b
      go true = refl
      go false = refl

  -- ---- the sums

  module _ (factor_of : Surface → Result Float Refusal) (weighted total : Float) where
    -- a strip's height, the strip and its answer, as the loop has them
    module _ (height : Float) (strip : Surface) (answer : Result Float Refusal) (h : height ≡ double_at heights i) (s : strip ≡ strip_of glazing base height) (a : answer ≡ factor_of strip) (k : i < n) where
      pub mean_next : (x : Float) → answer ≡ Ok x
          → mean_from factor_of (weighted ⊕ x ⊗ height) (total ⊕ height) (strips_left glazing heights n (i + 1) (base ⊕ height)) ≡ mean_from factor_of weighted total (strips_left glazing heights n i base)
      unfolding mean_from on_factor strip_of
      mean_next x e =
          let there : factor_of (strip_of glazing base (double_at heights i)) ≡ Ok x = ap (λ (z : Float). factor_of (strip_of glazing base z)) (sym h) ∙ ap factor_of (sym s) ∙ sym a ∙ e in
          rw (left_next k, there, h) refl

      pub mean_refused : (r : Refusal) → answer ≡ Err r → Err r ≡ mean_from factor_of weighted total (strips_left glazing heights n i base)
      unfolding mean_from on_factor
      mean_refused r e =
          let there : factor_of (strip_of glazing base (double_at heights i)) ≡ Err r = ap (λ (z : Float). factor_of (strip_of glazing base z)) (sym h) ∙ ap factor_of (sym s) ∙ sym a ∙ e in
          rw (left_next k, there) refl

    pub mean_end : n ≤ i → mean_from factor_of weighted total (strips_left glazing heights n i base) ≡ Ok (weighted ⊘ total)
    unfolding mean_from
    mean_end h = rw (left_none h) refl
