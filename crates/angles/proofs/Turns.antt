-- The floor of a small double v and its value modulo 4, from the whole part of v where v is above 0, and else from that of −v.
use Rattle.std.proofs.Common.{◌≡◌, ℕ, zero, suc, ◌+◌, ◌-◌, ◌*◌, ◌/◌, ◌%◌, ◌^◌, ◌≤◌, Bool, true, false, ◌&&◌, T, ◌⊎◌, pos, sym, refl, ◌∙◌, subst, inl, inr, true≢false, le_trans, le_of_eq, zero-lt-suc, mul_comm, mul-pos, arith, le→leb, lt→ltb}
use native.Mathlib.Nat.{div-le_of_le-mul}
use lib.Ieee.{Float, nan, inf, fin, binary64, up, down, neg, lt, eq, of_int, to_unsigned, fits, in_float}
use lib.Ieee.Fits.{up_pos, down_pos}
use lib.Ieee.Bits.{is_true}
use lib.Ieee.Exact.{HasValue}
use lib.Ieee.Order.{round_mono}
use lib.Ieee.Back.{round_whole, unsigned_back}
use Rattle.doubles.specs.Arithmetic.{whole}
use Rattle.doubles.specs.Functions.{floor_of}
use Rattle.doubles.specs.Order.{◌≼◌, ◌≺◌}
use Rattle.doubles.proofs.Order.{cross→lt, not_below, le_lt_trans, neg-le, neg-neg}
use Rattle.doubles.proofs.Rounding.{round_nonneg}
use Rattle.doubles.proofs.Exact.{same_value_lem}
use Rattle.doubles.proofs.WholePart.{castable, floor_positive, floor_even, floor_negative}
use Rattle.angles.specs.Sine.{quadrant}
use Rattle.angles.proofs.Small.{Small, neg_small}

-- ---- whole numbers as doubles, and modulo 4
pub whole_value : (n : ℕ) → n ≤ 2 ^ 53 → HasValue (whole n) false n 1
unfolding whole of_int
whole_value n h = round_whole binary64 false n h

whole_back : (n : ℕ) → n ≤ 1000 → to_unsigned 64 (whole n) ≡ n
unfolding whole in_float
whole_back n h = (unsigned_back binary64 64 n (le→leb n (2 ^ 53) (omega arith)) (omega arith)).1

whole_up : (n : ℕ) → whole 0 ≼ whole n
unfolding whole of_int
whole_up n = round_nonneg n 1 (zero-lt-suc 0)

minus_whole : (n : ℕ) → neg (whole (n + 1)) ≺ whole 0
unfolding whole of_int
minus_whole n =
    let one : whole 1 ≼ whole (n + 1) = record { holds = round_mono binary64 1 1 (n + 1) 1 (zero-lt-suc 0) (zero-lt-suc 0) (omega arith) } in
    le_lt_trans (neg-le one) (record { holds = unfold neg lt in tt })

pub quadrant_up : (n : ℕ) → n ≤ 1000 → quadrant (whole n) ≡ n % 4
unfolding quadrant
quadrant_up n h = simp (not_below (whole_up n), whole_back n h)

pub quadrant_next : (n : ℕ) → n ≤ 128 → quadrant (neg (whole (n + 1))) ≡ 3 - n % 4
unfolding quadrant
quadrant_next n h =
    let l : n + 1 ≤ 1000 = omega arith in
    rw (is_true (lt (neg (whole (n + 1))) (whole 0)) (minus_whole n).holds, neg-neg (whole (n + 1)), whole_back (n + 1) l) (turned n)
  where
    turned : (n : ℕ) → (4 - (n + 1) % 4) % 4 ≡ 3 - n % 4
    turned n = omega arith

-- ---- the whole part
pub part_le : (v : Float) → Small 7 v → to_unsigned 64 v ≤ 128
unfolding to_unsigned
part_le nan h = elim h [ ]
part_le (inf _) h = elim h [ ]
part_le (fin true m e) h = omega arith
part_le (fin false m e) h =
    let l : m * up e / down e ≤ 128 = div-le_of_le-mul (down e) (le_trans h (le_of_eq (mul_comm (2 ^ 7) (down e)))) in
    omega arith

-- above 0 and below 2 ^ 52, where the laws of `floor` cut
in_range : (v : Float) → Small 7 v → lt (whole 0) v ≡ true → lt (fin false 0 (pos 0)) v && lt v (fin false 1 (pos 52)) ≡ true
unfolding whole
in_range v h t = simp (t, is_true (lt v (fin false 1 (pos 52))) (below v h))
  where
    below : (v : Float) → Small 7 v → T (lt v (fin false 1 (pos 52)))
    below nan h = elim h [ ]
    below (inf _) h = elim h [ ]
    below (fin true m e) h = let d = down_pos e in unfold lt in lt→ltb 0 (m * up e * 1 + 2 ^ 52 * down e) (omega arith)
    below (fin false m e) h = let d = down_pos e in unfold lt in lt→ltb (m * up e * 1) (2 ^ 52 * down e) (omega arith)

pub floor_up : (v : Float) → T (fits binary64 v) → Small 7 v → lt (whole 0) v ≡ true → floor_of v ≡ whole (to_unsigned 64 v)
floor_up v f h t = sym (floor_positive v f (in_range v h t))

-- ---- v not above 0: a zero, or below
abbrev Sides : Float → Type 0
Sides v = ((s : Bool) × (v ≡ fin s 0 (pos 0))) ⊎ ((lt v (whole 0) ≡ true) × (lt (whole 0) (neg v) ≡ true))

not_above : (v : Float) → T (fits binary64 v) → Small 7 v → lt (whole 0) v ≡ false → Sides v
unfolding whole neg
not_above nan f h t = elim h [ ]
not_above (inf _) f h t = elim h [ ]
not_above (fin s zero e) f h t =
    inl (s, same_value_lem (fin s 0 e) (fin s 0 (pos 0)) s 0 1 (zero-lt-suc 0) f (unfold fits in tt) (refl, omega arith) (refl, refl))
not_above (fin false (suc m) e) f h t =
    absurd (true≢false (sym (is_true _ (cross→lt (whole 0) (fin false (suc m) e) tt tt (omega (arith, mul-pos (zero-lt-suc m) (up_pos e))))) ∙ t))
not_above (fin true (suc m) e) f h t =
    let p = mul-pos (zero-lt-suc m) (up_pos e) in
    inr (is_true _ (cross→lt (fin true (suc m) e) (whole 0) tt tt (omega (arith, p))), is_true _ (cross→lt (whole 0) (fin false (suc m) e) tt tt (omega (arith, p))))

-- the whole part of −v
abbrev pub cut : Float → ℕ
cut v = to_unsigned 64 (neg v)

-- a sign may change sides
eq-neg : (x y : Float) → eq (neg x) y ≡ eq x (neg y)
unfolding eq neg
eq-neg nan y = refl
eq-neg (inf s) nan = refl
eq-neg (inf true) (inf true) = refl
eq-neg (inf true) (inf false) = refl
eq-neg (inf false) (inf true) = refl
eq-neg (inf false) (inf false) = refl
eq-neg (inf s) (fin t n d) = refl
eq-neg (fin s m e) nan = refl
eq-neg (fin s m e) (inf t) = refl
eq-neg (fin true m e) (fin true n d) = refl
eq-neg (fin true m e) (fin false n d) = refl
eq-neg (fin false m e) (fin true n d) = refl
eq-neg (fin false m e) (fin false n d) = refl

-- what the truncation asks
abbrev pub Cuttable : Float → Type 0
Cuttable v = T (lt (fin true 1 (pos 0)) v) × T (lt v (fin false 1 (pos 64)))

-- what holds of a zero
record Zeros (v : Float) : Type 0 where
  own : floor_of v ≡ v
  none : quadrant v ≡ (4 - cut v % 4) % 4
  level : eq (neg (whole (cut v))) v ≡ true
  cuttable : Cuttable (neg v)

zeros : (v : Float) → (s : Bool) × (v ≡ fin s 0 (pos 0)) → Zeros v
zeros v z = subst Zeros (sym z.1) (go z.0)
  where
    go : (s : Bool) → Zeros (fin s 0 (pos 0))
    go true = unfold floor_of quadrant neg lt eq to_unsigned whole in record { own = refl; none = refl; level = refl; cuttable = (tt, tt) }
    go false = unfold floor_of quadrant neg lt eq to_unsigned whole in record { own = refl; none = refl; level = refl; cuttable = (tt, tt) }

module _ (v : Float) (f : T (fits binary64 v)) (h : Small 7 v) (t : lt (whole 0) v ≡ false) where
  -- where v is −n it is its own floor
  pub floor_level : eq (neg (whole (cut v))) v ≡ true → (floor_of v ≡ v) × (quadrant v ≡ (4 - cut v % 4) % 4)
  floor_level q = elim (not_above v f h t) [
    | inl z ↦ ((zeros v z).own, (zeros v z).none)
    | inr b ↦ (floor_even v f (in_range (neg v) (neg_small 7 v h) b.1) (sym (eq-neg (whole (cut v)) v) ∙ q), unfold quadrant in simp b.0)
  ]

  -- and otherwise the floor is −(n + 1)
  pub floor_down : eq (neg (whole (cut v))) v ≡ false → floor_of v ≡ neg (whole (cut v + 1))
  floor_down q = elim (not_above v f h t) [
    | inl z ↦ absurd (true≢false (sym (zeros v z).level ∙ q))
    | inr b ↦ floor_negative v f (in_range (neg v) (neg_small 7 v h) b.1) (sym (eq-neg (whole (cut v)) v) ∙ q)
  ]

  pub cuttable_down : Cuttable (neg v)
  cuttable_down = elim (not_above v f h t) [ inl z ↦ (zeros v z).cuttable | inr b ↦ castable (neg v) (in_range (neg v) (neg_small 7 v h) b.1) ]

pub cuttable_up : (v : Float) → Small 7 v → lt (whole 0) v ≡ true → Cuttable v
cuttable_up v h t = castable v (in_range v h t)
