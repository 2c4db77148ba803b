-- The strips of a glazing, one by one: what holds of any strip with a base and a height, and what the check has passed. Assumes nothing.
use mathlib.Core.Path.{◌≡◌, refl, sym, ap, ◌∙◌, subst}
use mathlib.Core.Logic.{inl, inr}
use mathlib.Core.Bool.{Bool, true, false, ◌&&◌}
use mathlib.Core.List.Memᴰ
use mathlib.Core.List.{List, [], ◌∷◌, Memᴰ}
use Prim.Native.Nat.{ℕ, zero, suc, ◌-◌, ◌%◌, ◌≤◌}
use native.Mathlib.Omega.{arith}
use lib.Dec.{T, eqb, leb, leb→le}
use lib.ListN.{length}
use lib.Ieee.{Float, binary64}
use lib.Ieee.Bits.{of_bits-fits}
use lib.Ieee.Fits.{and_l, and_r}
use Rattle.doubles.specs.Arithmetic.{◌⊕◌, whole}
use Rattle.doubles.specs.Order.{◌≼◌, Fits}
use Rattle.words.specs.Words.{word_count, double_at}
use Rattle.objects.specs.declared.surface.Surface.{Surface}
use Rattle.objects.specs.Records.{records_from}
use Rattle.objects.specs.Surface.{surface_fine}
use Rattle.object_checks.proofs.Accepted.{base_height_range, height_range}
use Rattle.strips.specs.declared.glazing.TallGlazing.{TallGlazing}
use Rattle.strips.specs.Strips.{strip_of, strips_from, heights_of, strips_of, count_fine, all_fine, strips_fine}
use Rattle.strips.proofs.Means.{Stacked}

is_nil : List Surface → Bool
is_nil [] = true
is_nil (s ∷ rest) = false

cons_not_nil : {s : Surface} {rest : List Surface} → s ∷ rest ≡ [] → ⊥
unfolding is_nil
cons_not_nil e = subst T (sym (ap is_nil e)) tt

-- what holds of every strip with a base and a height holds of each in the list
pub strip_has : (glazing : TallGlazing) (P : Surface → Type 0) → ((base height : Float) → P (strip_of glazing base height))
    → (hs : List Float) (base : Float) (s : Surface) → Memᴰ s (strips_from glazing base hs) → P s
unfolding strips_from
strip_has glazing P p [] base s m = absurd (Memᴰ.not-nil m)
strip_has glazing P p (h ∷ hs) base s m =
    elim (Memᴰ.cases_cons m) [
      | inl e ↦ subst P (sym e) (p base h)
      | inr k ↦ strip_has glazing P p hs (base ⊕ h) s k
    ]

double_fits : (l : List ℕ) (k : ℕ) → Fits (double_at l k)
unfolding double_at
double_fits l k = record { holds = of_bits-fits binary64 _ }

-- each height is a double
pub heights_fit : (glazing : TallGlazing) (l : List ℕ) (n i : ℕ) (base : Float) (s : Surface) → Memᴰ s (strips_from glazing base (records_from (double_at l) i n)) → Fits s.height
unfolding strips_from records_from strip_of
heights_fit glazing l zero i base s m = absurd (Memᴰ.not-nil m)
heights_fit glazing l (suc n) i base s m =
    elim (Memᴰ.cases_cons m) [
      | inl e ↦ rw e (double_fits l i)
      | inr k ↦ heights_fit glazing l n (suc i) (base ⊕ double_at l i) s k
    ]

-- ---- strips that have passed the check

pub all_fine_lem : (strips : List Surface) → T (all_fine strips) → (s : Surface) → Memᴰ s strips → T (surface_fine s)
unfolding all_fine
all_fine_lem [] t s m = absurd (Memᴰ.not-nil m)
all_fine_lem (strip ∷ above) t s m =
    elim (Memᴰ.cases_cons m) [
      | inl e ↦ rw e (and_l (surface_fine strip) (all_fine above) t)
      | inr k ↦ all_fine_lem above (and_r (surface_fine strip) (all_fine above) t) s k
    ]

stacked_from : (glazing : TallGlazing) (l : List ℕ) (n i : ℕ) (base : Float) → T (all_fine (strips_from glazing base (records_from (double_at l) i n)))
    → Stacked base (strips_from glazing base (records_from (double_at l) i n))
unfolding strips_from records_from strip_of all_fine Stacked
stacked_from glazing l zero i base t = tt
stacked_from glazing l (suc n) i base t =
    let strip = strip_of glazing base (double_at l i) in
    let fine = and_l (surface_fine strip) (all_fine (strips_from glazing (base ⊕ double_at l i) (records_from (double_at l) (suc i) n))) t in
    let rest = and_r (surface_fine strip) (all_fine (strips_from glazing (base ⊕ double_at l i) (records_from (double_at l) (suc i) n))) t in
    let height = height_range strip fine in
    (record { base_range = base_height_range strip fine; height = record { least = height.from; most = height.to; double = double_fits l i } }, stacked_from glazing l n (suc i) (base ⊕ double_at l i) rest)

module _ (glazing : TallGlazing) (heights : List ℕ) (t : T (strips_fine glazing heights)) where
  count : T (count_fine heights)
  unfolding strips_fine
  count = and_l (count_fine heights) (all_fine (strips_of glazing heights)) t

  pub strips_all_fine : T (all_fine (strips_of glazing heights))
  unfolding strips_fine
  strips_all_fine = and_r (count_fine heights) (all_fine (strips_of glazing heights)) t

  pub strips_stacked : Stacked glazing.base_height (strips_of glazing heights)
  unfolding strips_of heights_of
  strips_stacked = stacked_from glazing heights (word_count heights) 0 glazing.base_height strips_all_fine

  -- there is a lowest
  pub lowest_first : strips_of glazing heights
      ≡ strip_of glazing glazing.base_height (double_at heights 0) ∷ strips_from glazing (glazing.base_height ⊕ double_at heights 0) (records_from (double_at heights) 1 (word_count heights - 1))
  unfolding strips_of heights_of strips_from records_from count_fine
  lowest_first =
      let few = and_l (eqb (length heights % 8) 0 && leb 1 (word_count heights)) (leb (word_count heights) 12) count in
      go (word_count heights) (leb→le 1 (word_count heights) (and_r (eqb (length heights % 8) 0) (leb 1 (word_count heights)) few))
    where
      go : (n : ℕ) → 1 ≤ n
          → strips_from glazing glazing.base_height (records_from (double_at heights) 0 n)
          ≡ strip_of glazing glazing.base_height (double_at heights 0) ∷ strips_from glazing (glazing.base_height ⊕ double_at heights 0) (records_from (double_at heights) 1 (n - 1))
      go zero h = absurd (omega arith)
      go (suc n) h =
          let less : suc n - 1 ≡ n = omega arith in
          rw less refl

  pub lowest_member : Memᴰ (strip_of glazing glazing.base_height (double_at heights 0)) (strips_of glazing heights)
  lowest_member = subst (Memᴰ _) (sym lowest_first) (Memᴰ.head refl)

  pub not_none : {A : Type 0} → strips_of glazing heights ≡ [] → A
  not_none e = absurd (cons_not_nil (sym lowest_first ∙ e))

  pub lowest_base : whole 0 ≼ glazing.base_height
  unfolding Stacked
  lowest_base = on_base (strips_of glazing heights) strips_stacked not_none
    where
      on_base : (strips : List Surface) → Stacked glazing.base_height strips → (strips ≡ [] → whole 0 ≼ glazing.base_height) → whole 0 ≼ glazing.base_height
      on_base [] k none = none refl
      on_base (strip ∷ above) k none = k.0.base_range.from
