-- `to_unsigned w`, the cast of a double to a whole number of w bits: it keeps the order, does not see a floor, and has three ways: at 0
-- and below, within the range, and past it. Assumes nothing.
use Rattle.std.proofs.Common.{◌≡◌, ℕ, zero, suc, ◌+◌, ◌-◌, ◌*◌, ◌/◌, ◌^◌, ◌<◌, ◌≤◌, min, Bool, true, false, ◌&&◌, T, ℤ, pos, negsuc, sym, refl, ap, ◌∙◌, subst, true≢false, zero-le, le_trans, le_of_eq, le_refl, le_of_lt, div-lt_iff_lt-mul, le_antisymm, mul-one, div-le_self, mul-div_cancel, arith, lit<, pow_mono}
use native.Mathlib.Nat.{min-le_left, min-le_right, le-min, zero-div}
use lib.Ieee.{Float, nan, inf, fin, binary64, up, down, neg, lt, le, is_nan, fits, of_int, to_unsigned}
use lib.Ieee.Back.{round_whole}
use lib.Ieee.Casts.{to_unsigned-lt}
use lib.Ieee.Exact.{HasValue}
use lib.Ieee.Fits.{and_l, and_r, down_pos}
use lib.Ieee.Nearest.{div_mono}
use Rattle.doubles.specs.Arithmetic.{whole}
use Rattle.doubles.specs.Functions.{floor_of}
use Rattle.doubles.specs.Order.{◌≼◌, ◌≺◌, Number, Fits}
use Rattle.doubles.proofs.Order.{le→cross, lt→cross, cross→le, le_trans as le-trans·double, lt→le, le_lt_trans, lt-le_trans, left_number, right_number, le_of_not_lt, neg-le}
use Rattle.doubles.proofs.Rounding.{round_nonneg, first_zero}
use Rattle.doubles.proofs.Exact.{digits}

-- ---- the order, and floors

capped_mono : (a b c : ℕ) → a ≤ b → min a c ≤ min b c
capped_mono a b c h = le-min (le_trans (min-le_left a c) h) (min-le_right a c)

-- a cast keeps the order
pub cast_mono : (w : ℕ) {x y : Float} → x ≼ y → to_unsigned w x ≤ to_unsigned w y
unfolding to_unsigned le
cast_mono w {x} {y} h = go x y h
  where
    go : (x y : Float) → x ≼ y → to_unsigned w x ≤ to_unsigned w y
    go nan y h = absurd h.holds
    go (inf true) y h = zero-le
    go (fin true m e) y h = zero-le
    go (inf false) nan h = absurd h.holds
    go (inf false) (inf true) h = absurd h.holds
    go (inf false) (inf false) h = le_refl (2 ^ w - 1)
    go (inf false) (fin t n d) h = absurd h.holds
    go (fin false m e) nan h = absurd h.holds
    go (fin false m e) (inf true) h = absurd h.holds
    go (fin false m e) (inf false) h = min-le_right (m * up e / down e) (2 ^ w - 1)
    go (fin false m e) (fin true n d) h =
        let z : m * up e ≡ 0 = first_zero (m * up e) (down d) (down_pos d) (omega (arith, le→cross {x = fin false m e} {y = fin true n d} (record { holds = tt }) (record { holds = tt }) h)) in
        le_trans (min-le_left (m * up e / down e) (2 ^ w - 1)) (le_of_eq (ap (λ (k : ℕ). k / down e) z ∙ zero-div (down e)))
    go (fin false m e) (fin false n d) h =
        capped_mono (m * up e / down e) (n * up d / down d) (2 ^ w - 1)
        (div_mono (m * up e) (down e) (n * up d) (down d) (down_pos e) (down_pos d)
        (omega (arith, le→cross {x = fin false m e} {y = fin false n d} (record { holds = tt }) (record { holds = tt }) h)))

-- of a whole value
cast_value : (w : ℕ) (x : Float) (n : ℕ) → HasValue x false n 1 → to_unsigned w x ≡ min n (2 ^ w - 1)
unfolding to_unsigned
cast_value w nan n v = absurd v
cast_value w (inf s) n v = absurd v
cast_value w (fin true m e) n v = absurd (true≢false v.0)
cast_value w (fin false m e) n v =
    ap (λ (k : ℕ). min k (2 ^ w - 1)) (ap (λ (k : ℕ). k / down e) (sym (mul-one (m * up e)) ∙ v.1) ∙ mul-div_cancel n (down_pos e))

-- the significand of a double has 53 digits
few_digits : (s : Bool) (m : ℕ) (e : ℤ) → T (fits binary64 (fin s m e)) → m ≤ 2 ^ 53
few_digits s zero e f = zero-le
few_digits s (suc m) e f = le_of_lt (digits s m e f).few

-- what is not above 0 becomes 0
pub cast_zero : (w : ℕ) {x : Float} → x ≼ fin true 0 (pos 0) → to_unsigned w x ≡ 0
unfolding to_unsigned
cast_zero w {x} h = le_antisymm (cast_mono w h) zero-le

-- a double and its floor have the same whole part
pub cast_floor : (w : ℕ) {x : Float} → Fits x → to_unsigned w (floor_of x) ≡ to_unsigned w x
unfolding floor_of
cast_floor w {x} f = go x f.holds
  where
    go : (x : Float) → T (fits binary64 x) → to_unsigned w (floor_of x) ≡ to_unsigned w x
    go nan f = refl
    go (inf s) f = refl
    go (fin s m (pos k)) f = refl
    go (fin false m (negsuc k)) f =
        let n = m / 2 ^ suc k in
        let l : n ≤ 2 ^ 53 = le_trans (div-le_self m (2 ^ suc k)) (few_digits false m (negsuc k) f) in
        cast_value w (whole n) n (unfold whole of_int in round_whole binary64 false n l)
        ∙ unfold to_unsigned in ap (λ (a : ℕ). min (a / 2 ^ suc k) (2 ^ w - 1)) (sym (mul-one m))
    go (fin true m (negsuc k)) f =
        cast_zero w (neg-le (unfold whole of_int neg in round_nonneg ((m + (2 ^ suc k - 1)) / 2 ^ suc k) 1 (lit< tt)))
        ∙ unfold to_unsigned in refl

-- ---- the three ways

-- 0 and 2 ^ w
abbrev nought : Float
nought = fin false 0 (pos 0)

abbrev power : ℕ → Float
power w = fin false 1 (pos w)

module _ (w : ℕ) (x : Float) (few : w ≤ 64) (h : lt nought x && lt x (power w) ≡ true) where
  above : nought ≺ x
  above = record { holds = and_l (lt nought x) (lt x (power w)) (subst T (sym h) tt) }

  below : x ≺ power w
  below = record { holds = and_r (lt nought x) (lt x (power w)) (subst T (sym h) tt) }

  -- what the truncation asks
  pub cuttable : T (lt (fin true 1 (pos 0)) x) × T (lt x (power 64))
  cuttable = (
    (le_lt_trans {x = fin true 1 (pos 0)} {y = nought} {z = x} (record { holds = unfold le in tt }) above).holds,
    (lt-le_trans {x = x} {y = power w} {z = power 64} below (cross→le {x = power w} {y = power 64} (record { holds = tt }) (record { holds = tt }) (powers (2 ^ w) (2 ^ 64) (pow_mono few)))).holds,
  )
    where
      powers : (a b : ℕ) → a ≤ b → 1 * a * 1 + 0 * 1 ≤ 1 * b * 1 + 0 * 1
      powers a b h = omega arith

  -- within the range the width makes no difference
  pub cast_within : to_unsigned 64 x ≡ to_unsigned w x
  unfolding to_unsigned
  cast_within = go x above.holds below.holds
    where
      both : (q a b : ℕ) → q < a → a ≤ b → min q (b - 1) ≡ min q (a - 1)
      both q a b h k = omega arith

      go : (x : Float) → T (lt nought x) → T (lt x (power w)) → to_unsigned 64 x ≡ to_unsigned w x
      go nan a b = absurd (unfold lt in a)
      go (inf true) a b = absurd (unfold lt in a)
      go (inf false) a b = absurd (unfold lt in b)
      go (fin true m e) a b = absurd (unfold lt in a)
      go (fin false m e) a b =
          let q : m * up e / down e < 2 ^ w = (div-lt_iff_lt-mul (down_pos e)).1 (crossed (m * up e) (down e) (2 ^ w) (lt→cross (fin false m e) (power w) tt tt b)) in
          both (m * up e / down e) (2 ^ w) (2 ^ 64) q (pow_mono few)
        where
          crossed : (a d p : ℕ) → a * 1 + 0 * d < 1 * p * d + 0 * 1 → a < p * d
          crossed a d p h = omega arith

-- past the range it is the largest number
pub cast_over : (w : ℕ) (x : Float) → lt nought x && lt x (power w) ≡ false → lt nought x ≡ true → to_unsigned w x ≡ 2 ^ w - 1
unfolding to_unsigned
cast_over w x h p =
    let above : nought ≺ x = record { holds = subst T (sym p) tt } in
    let out : lt x (power w) ≡ false = rw p at h in
    let least : power w ≼ x = le_of_not_lt (right_number (lt→le above)) (right_number (le_of_power w)) out in
    le_antisymm (under (to_unsigned w x) (2 ^ w) (to_unsigned-lt w x)) (le_trans (le_of_eq (sym (largest (2 ^ w)))) (cast_mono w least))
  where
    le_of_power : (w : ℕ) → nought ≼ power w
    le_of_power w = cross→le {x = nought} {y = power w} (record { holds = tt }) (record { holds = tt }) (zeros (2 ^ w))
      where
        zeros : (a : ℕ) → 0 * 1 * 1 + 0 * 1 ≤ 1 * a * 1 + 0 * 1
        zeros a = omega arith

    under : (a b : ℕ) → a < b → a ≤ b - 1
    under a b h = omega arith

    largest : (a : ℕ) → min (1 * a / 1) (a - 1) ≡ a - 1
    largest a = omega arith

-- at 0 and below, and for NaN, it is 0
pub cast_under : (w : ℕ) (x : Float) → lt nought x ≡ false → to_unsigned w x ≡ 0
unfolding is_nan
cast_under w x h = go x h
  where
    level : nought ≼ fin true 0 (pos 0)
    level = record { holds = unfold le in tt }

    nought_number : Number nought
    nought_number = left_number level

    go : (x : Float) → lt nought x ≡ false → to_unsigned w x ≡ 0
    go nan h = unfold to_unsigned in refl
    go (inf s) h = cast_zero w (le-trans·double (le_of_not_lt nought_number (record { holds = tt }) h) level)
    go (fin s m e) h = cast_zero w (le-trans·double (le_of_not_lt nought_number (record { holds = tt }) h) level)
