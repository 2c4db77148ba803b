-- The quotient of the sums, whatever the answers of the strips are: from 0 to 1 where all factors are, 1 where all are 1, no larger where
-- none is larger, the same where all are the same, and refused where the lowest is. Assumes nothing.
use Rattle.std.specs.Prelude.{Err, Float, Ok, Result}
use mathlib.Core.Path.{◌≡◌, refl, sym, ap, ◌∙◌, subst}
use mathlib.Core.Logic.{inl, inr}
use mathlib.Core.List.Memᴰ
use mathlib.Core.List.{List, [], ◌∷◌, Memᴰ}
use lib.Ieee.{Float, add, mul, le}
use Rattle.doubles.specs.Arithmetic.{◌⊕◌, ◌⊗◌, ◌⊘◌, whole, decimal}
use Rattle.doubles.specs.Order.{◌≼◌, ◌≺◌, InRange, Number, Finite}
use Rattle.doubles.proofs.Order.{le_refl, le_trans, right_number, lt-le_trans}
use Rattle.doubles.proofs.Monotone.{add_mono, div_mono}
use Rattle.doubles.proofs.Bounds.{zero_number, one_number, zero-le_one, div-number, div_nonneg, div-le_one, positive_nonzero}
use Rattle.doubles.proofs.Exact.{one_times, div_self}
use Rattle.doubles.proofs.Ranges.{Between, finite_between}
use Rattle.doubles.proofs.Intervals.{in_number, between_range, add_in, mul_in, mul_keeps}
use Rattle.objects.specs.declared.surface.Surface.{Surface}
use Rattle.objects.specs.declared.answers.Refusal.{Refusal}
use Rattle.shading_laws.specs.Sizes.{NoLargerAnswer}
use Rattle.shading_laws.proofs.Answers.{not_refused, same_factor}
use Rattle.shading_laws.proofs.Sides.{Side, side_nonneg, side_number, zero-lt_least, finite_2000}
use Rattle.strips.specs.Strips.{on_factor, mean_from}

-- ---- strips one on the other, bases and heights in their ranges

pub record OnBase (base : Float) (strip : Surface) : Type 0 where
  pub base_range : InRange (whole 0) (whole 1000) base
  pub height : Side strip.height

unfoldable pub Stacked : Float → List Surface → Type 0
Stacked base [] = Unit {0}
Stacked base (strip ∷ above) = OnBase base strip × Stacked (base ⊕ strip.height) above

-- ---- the sums over the strips below a base: finite, for no strip's base is above 1000 and no height is

pub record Sums (base weighted total : Float) : Type 0 where
  pub low : whole 0 ≼ weighted
  pub mid : weighted ≼ total
  pub high : total ≼ whole 2000
  pub below : total ≼ base

pub no_sums : {base : Float} → whole 0 ≼ base → Sums base (whole 0) (whole 0)
unfolding whole le
no_sums h = record { low = le_refl zero_number; mid = le_refl zero_number; high = record { holds = tt }; below = h }

height_range : {h : Float} → Side h → InRange (decimal 1 3) (whole 1000) h
height_range d = record { from = d.least; to = d.most }

-- factor times height
weight_range : {x h : Float} → Between (whole 1) x → InRange (decimal 1 3) (whole 1000) h → InRange (whole 0) (whole 1000) (x ⊗ h)
unfolding whole decimal mul le
weight_range b r = mul_in (between_range b) r tt tt

weight_le : {x h : Float} → Between (whole 1) x → Side h → x ⊗ h ≼ h
weight_le {x} {h} b d =
    let same = one_times d.double in
    subst (λ (z : Float). x ⊗ h ≼ z) same (mul_keeps (side_nonneg d) b.high (in_number (weight_range b (height_range d))) (subst Number (sym same) (side_number d)))

total_range : {t h : Float} → InRange (whole 0) (whole 2000) t → InRange (decimal 1 3) (whole 1000) h → InRange (decimal 1 3) (whole 3000) (t ⊕ h)
unfolding whole decimal add le
total_range t r = add_in t r tt

weighted_range : {w p : Float} → InRange (whole 0) (whole 2000) w → InRange (whole 0) (whole 1000) p → InRange (whole 0) (whole 3000) (w ⊕ p)
unfolding whole add le
weighted_range w r = add_in w r tt

top_range : {b h : Float} → InRange (whole 0) (whole 1000) b → InRange (decimal 1 3) (whole 1000) h → InRange (whole 0) (whole 2000) (b ⊕ h)
unfolding whole decimal add le
top_range b r = add_in b r tt

module _ {base weighted total : Float} {strip : Surface} (s : Sums base weighted total) (o : OnBase base strip) where
  total_in : InRange (decimal 1 3) (whole 3000) (total ⊕ strip.height)
  total_in = total_range (record { from = le_trans s.low s.mid; to = s.high }) (height_range o.height)

  -- a strip more
  pub sums_next : (x : Float) → Between (whole 1) x → Sums (base ⊕ strip.height) (weighted ⊕ x ⊗ strip.height) (total ⊕ strip.height)
  sums_next x b =
      let weighted-in = weighted_range (record { from = s.low; to = le_trans s.mid s.high }) (weight_range b (height_range o.height)) in
      let top_in = top_range o.base_range (height_range o.height) in
      let total-le = add_mono s.below (le_refl (side_number o.height)) (in_number total_in) (in_number top_in) in
      record {
        low = weighted-in.from;
        mid = add_mono s.mid (weight_le b o.height) (in_number weighted-in) (in_number total_in);
        high = le_trans total-le top_in.to;
        below = total-le;
      }

  pub total_positive : decimal 1 3 ≼ total ⊕ strip.height
  total_positive = total_in.from

-- ---- the quotient

module _ {base weighted total : Float} (s : Sums base weighted total) (p : decimal 1 3 ≼ total) where
  positive : whole 0 ≺ total
  positive = lt-le_trans zero-lt_least p

  total_finite : Finite total
  total_finite = finite_between finite_2000 (record { low = le_trans s.low s.mid; high = s.high })

  pub quotient_number : {w : Float} → whole 0 ≼ w → w ≼ weighted → Number (w ⊘ total)
  quotient_number l h = div-number (finite_between total_finite (record { low = l; high = le_trans h s.mid })) total_finite (positive_nonzero positive)

  quotient : Number (weighted ⊘ total)
  quotient = quotient_number s.low (le_refl (right_number s.low))

  pub quotient_between : Between (whole 1) (weighted ⊘ total)
  quotient_between = record { low = div_nonneg s.low positive quotient; high = div-le_one positive s.mid quotient }

  pub quotient_falls : {w : Float} → whole 0 ≼ w → w ≼ weighted → w ⊘ total ≼ weighted ⊘ total
  quotient_falls l h = div_mono positive h (quotient_number l h) quotient

  pub quotient_one : total ⊘ total ≡ whole 1
  quotient_one = div_self total_finite (positive_nonzero positive)

one_between : Between (whole 1) (whole 1)
one_between = record { low = zero-le_one; high = le_refl one_number }

-- a smaller factor adds no more
weights_fall : {h w v x y : Float} → Side h → w ≼ v → y ≼ x → Between (whole 1) x → Between (whole 1) y → whole 0 ≼ w ⊕ y ⊗ h → whole 0 ≼ v ⊕ x ⊗ h → w ⊕ y ⊗ h ≼ v ⊕ x ⊗ h
weights_fall d k n bx by l m =
    add_mono k (mul_keeps (side_nonneg d) n (in_number (weight_range by (height_range d))) (in_number (weight_range bx (height_range d)))) (right_number l) (right_number m)

-- ---- what follows from a strip's answer

factor_first : {P : Type 0} {x : Float} (a : Result Float Refusal) (next : Float → Result Float Refusal) → on_factor a next ≡ Ok x → ((y : Float) → a ≡ Ok y → next y ≡ Ok x → P) → P
unfolding on_factor
factor_first (Err r) next e go = not_refused e
factor_first (Ok y) next e go = go y refl e

same_next : (a : Result Float Refusal) (m n : Float → Result Float Refusal) → ((y : Float) → m y ≡ n y) → on_factor a m ≡ on_factor a n
unfolding on_factor
same_next (Err r) m n e = refl
same_next (Ok y) m n e = e y

next_falls : (a b : Result Float Refusal) (m n : Float → Result Float Refusal) → NoLargerAnswer a b
    → ((x y : Float) → a ≡ Ok x → b ≡ Ok y → y ≼ x → NoLargerAnswer (m x) (n y)) → NoLargerAnswer (on_factor a m) (on_factor b n)
unfolding on_factor NoLargerAnswer
next_falls (Err r) (Err q) m n h go = h
next_falls (Err r) (Ok y) m n h go = absurd h
next_falls (Ok x) (Err q) m n h go = absurd h
next_falls (Ok x) (Ok y) m n h go = go x y refl refl h

-- ---- over any answers of the strips

-- every strip's factor is from 0 to 1
abbrev pub AllBetween : (Surface → Result Float Refusal) → List Surface → Type 0
AllBetween f strips = (s : Surface) → Memᴰ s strips → (x : Float) → f s ≡ Ok x → Between (whole 1) x

pub record HasFactor (answer : Result Float Refusal) : Type 0 where
  pub value : Float
  pub is : answer ≡ Ok value

module _ (f : Surface → Result Float Refusal) where
  -- where the whole has a factor, every strip has one
  pub all_factors : (strips : List Surface) (weighted total x : Float) → mean_from f weighted total strips ≡ Ok x → (s : Surface) → Memᴰ s strips → HasFactor (f s)
  unfolding mean_from
  all_factors [] weighted total x e s m = absurd (Memᴰ.not-nil m)
  all_factors (strip ∷ above) weighted total x e s m =
      factor_first (f strip) _ e
      (λ y i rest.
      elim (Memᴰ.cases_cons m) [
        | inl q ↦ record { value = y; is = ap f q ∙ i }
        | inr k ↦ all_factors above (weighted ⊕ y ⊗ strip.height) (total ⊕ strip.height) x rest s k
      ])

  -- from 0 to 1 where all are
  pub mean_between : (strips : List Surface) {base weighted total : Float} → Stacked base strips → Sums base weighted total → (strips ≡ [] → decimal 1 3 ≼ total)
      → AllBetween f strips → (x : Float) → mean_from f weighted total strips ≡ Ok x → Between (whole 1) x
  unfolding mean_from Stacked
  mean_between [] k s p each x e = subst (Between (whole 1)) (same_factor e) (quotient_between s (p refl))
  mean_between (strip ∷ above) k s p each x e =
      factor_first (f strip) _ e
      (λ y i. mean_between above k.1 (sums_next s k.0 y (each strip (Memᴰ.head refl) y i)) (λ _. total_positive s k.0) (λ t m. each t (Memᴰ.tail m)) x)

  -- 1 where all are
  pub mean_one : (strips : List Surface) {base total : Float} → Stacked base strips → Sums base total total → (strips ≡ [] → decimal 1 3 ≼ total)
      → ((s : Surface) → Memᴰ s strips → f s ≡ Ok (whole 1)) → mean_from f total total strips ≡ Ok (whole 1)
  unfolding mean_from on_factor Stacked
  mean_one [] k s p each = ap Ok (quotient_one s (p refl))
  mean_one (strip ∷ above) {base} {total} k s p each =
      let same = one_times k.0.height.double in
      let next = subst (λ (z : Float). Sums (base ⊕ strip.height) (total ⊕ z) (total ⊕ strip.height)) same (sums_next s k.0 (whole 1) one_between) in
      rw (each strip (Memᴰ.head refl), same) (mean_one above k.1 next (λ _. total_positive s k.0) (λ t m. each t (Memᴰ.tail m)))

  -- refused where the lowest is
  pub mean_refused : (r : Refusal) (strip : Surface) (above : List Surface) (weighted total : Float) → f strip ≡ Err r → mean_from f weighted total (strip ∷ above) ≡ Err r
  unfolding mean_from on_factor
  mean_refused r strip above weighted total e = rw e refl

module _ (f g : Surface → Result Float Refusal) where
  -- the same where all are
  pub mean_same : (strips : List Surface) (weighted total : Float) → ((s : Surface) → Memᴰ s strips → f s ≡ g s) → mean_from f weighted total strips ≡ mean_from g weighted total strips
  unfolding mean_from
  mean_same [] weighted total each = refl
  mean_same (strip ∷ above) weighted total each =
      rw (each strip (Memᴰ.head refl))
      (same_next (g strip) _ _ (λ y. mean_same above (weighted ⊕ y ⊗ strip.height) (total ⊕ strip.height) (λ t m. each t (Memᴰ.tail m))))

  -- no larger where none is
  pub mean_falls : (strips : List Surface) {base weighted total : Float} (w : Float) → Stacked base strips → Sums base weighted total → whole 0 ≼ w → w ≼ weighted
      → (strips ≡ [] → decimal 1 3 ≼ total) → ((s : Surface) → Memᴰ s strips → NoLargerAnswer (f s) (g s)) → AllBetween f strips → AllBetween g strips
      → NoLargerAnswer (mean_from f weighted total strips) (mean_from g w total strips)
  unfolding mean_from Stacked NoLargerAnswer
  mean_falls [] w k s l h p each fs gs = quotient_falls s (p refl) l h
  mean_falls (strip ∷ above) w k s l h p each fs gs =
      next_falls (f strip) (g strip) _ _ (each strip (Memᴰ.head refl))
      (λ x y i j n.
      let bx = fs strip (Memᴰ.head refl) x i in
      let by = gs strip (Memᴰ.head refl) y j in
      let mine = sums_next s k.0 x bx in
      let other = sums_next (record { low = l; mid = le_trans h s.mid; high = s.high; below = s.below }) k.0 y by in
      mean_falls above (w ⊕ y ⊗ strip.height) k.1 mine other.low
      (weights_fall k.0.height h n bx by other.low mine.low) (λ _. total_positive s k.0)
      (λ t m. each t (Memᴰ.tail m)) (λ t m. fs t (Memᴰ.tail m)) (λ t m. gs t (Memᴰ.tail m)))
