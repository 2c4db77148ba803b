-- What the root is: `square_root_is_root`, the whole claim of specs/IsRoot.antt, and that only one double meets it (`root_unique`). Besides, for
-- those who use it: it is a double and never below zero. Assumes nothing.
use mathlib.Core.Path.{◌≡◌, refl, sym, ap, ◌∙◌, subst}
use mathlib.Core.Bool.{Bool, true, false, cond, ◌||◌}
use Prim.Native.Nat.{ℕ, zero, suc, ◌+◌, ◌-◌, ◌*◌, ◌/◌, ◌^◌, ◌<◌}
use native.Mathlib.Nat.{add_comm, mul-pos, mul-div_cancel, zero-lt-suc, lt_irrefl, lt_trans, le_antisymm}
use native.Mathlib.Omega.{arith}
use lib.IntN.{ℤ, pos}
use lib.Dec.{T, ltb, lt→ltb, ltb→lt, not_T}
use lib.Ieee.{Float, nan, inf, fin, binary64, up, down, size, odd, of_bits, to_bits, fits, is_nan, lt}
use lib.Ieee.Bits.{of_bits-to_bits, is_true, is_false}
use lib.Ieee.Fits.{up_pos, down_pos, nan-fits}
use Rattle.roots.specs.Root.{nearest_root, units_root, square_root}
use Rattle.roots.specs.IsRoot.{Units, Nearest, IsRoot}
use Rattle.roots.proofs.Whole.{le_of_not_lt}
use Rattle.roots.proofs.Doubles.{double_scaled}
use Rattle.roots.proofs.Cases.{none, unsized, at_zero}
use Rattle.roots.proofs.Nearest.{value_unique, scaled_fits, square_root_nearest}

-- ---- a double

pub square_root-fits : (x : Float) → T (fits binary64 x) → T (fits binary64 (square_root x))
square_root-fits nan h = unfold square_root in h
square_root-fits (inf true) h = unfold square_root in nan-fits binary64
square_root-fits (inf false) h = unfold square_root in h
square_root-fits (fin true zero e) h = unfold square_root in h
square_root-fits (fin false zero e) h = unfold square_root in h
square_root-fits (fin true (suc m) e) h = unfold square_root in nan-fits binary64
square_root-fits (fin false (suc m) e) h =
    let d = double_scaled (fin false (suc m) e) h (lt→ltb 0 (suc m) (zero-lt-suc m)) in
    scaled_fits (fin false (suc m) e) d.m d.f d.scaled

-- ---- its sign

-- what has no sign is not below zero
plain : (m : ℕ) (e : ℤ) → lt (fin false m e) none ≡ false
unfolding lt
plain m e = is_false (ltb (m * up e * 1) (0 * 1 * down e)) (not_T (ltb (m * up e * 1) (0 * 1 * down e)) (λ t. no (ltb→lt (m * up e * 1) (0 * 1 * down e) t)))
  where
    no : m * up e * 1 < 0 * 1 * down e → ⊥
    no h = omega arith

units_plain : (a : ℕ) → lt (units_root a) none ≡ false
unfolding units_root odd
units_plain a = let k = (size a + 1) / 2 in go (nearest_root 53 (a * 4 ^ 53 / 4 ^ k)) k
  where
    go : (q k : ℕ) → lt (odd 53 false q k 590) none ≡ false
    go zero k = plain zero (pos 0)
    go (suc q) k = plain _ _

below_zero : (m : ℕ) (e : ℤ) → lt (fin true (suc m) e) none ≡ true
unfolding lt
below_zero m e = is_true _ (lt→ltb 0 (suc m * up e * 1 + 0 * 1 * down e) (some (suc m * up e) (mul-pos (zero-lt-suc m) (up_pos e)) (0 * 1 * down e)))
  where
    some : (a : ℕ) → 0 < a → (b : ℕ) → 0 < a * 1 + b
    some a h b = omega arith

minus_zero : (e : ℤ) → lt (fin true zero e) none ≡ false
unfolding lt
minus_zero e = is_false _ (not_T (ltb 0 (0 * up e * 1 + 0 * 1 * down e)) (λ t. no (ltb→lt 0 (0 * up e * 1 + 0 * 1 * down e) t)))
  where
    no : 0 < 0 * up e * 1 + 0 * 1 * down e → ⊥
    no h = omega arith

pub square_root-not_negative : (x : Float) → lt (square_root x) (fin false 0 (pos 0)) ≡ false
square_root-not_negative nan = unfold square_root lt in refl
square_root-not_negative (inf true) = unfold square_root lt in refl
square_root-not_negative (inf false) = unfold square_root lt in refl
square_root-not_negative (fin true zero e) = unfold square_root in minus_zero e
square_root-not_negative (fin false zero e) = unfold square_root in plain zero e
square_root-not_negative (fin true (suc m) e) = unfold square_root lt in refl
square_root-not_negative (fin false (suc m) e) = unfold square_root in units_plain (suc m * up e * 2 ^ 1074 / down e)

-- ---- the whole claim

of_none : (x : Float) → T (is_nan x || lt x none) → square_root x ≡ nan
of_none nan t = unfold square_root in refl
of_none (inf true) t = unfold square_root in refl
of_none (inf false) t = unfold is_nan lt in absurd t
of_none (fin true zero e) t = absurd (unfold is_nan in subst T (minus_zero e) t)
of_none (fin false m e) t = absurd (unfold is_nan in subst T (plain m e) t)
of_none (fin true (suc m) e) t = unfold square_root in refl

pub square_root_is_root : (x : Float) → T (fits binary64 x) → IsRoot x (square_root x)
square_root_is_root x f = record {
  none = of_none x;
  of_zero = λ t. sym (at_zero x (is_true _ t));
  of_infinity = λ e. ap square_root e ∙ unfold square_root in refl;
  nearest = square_root_nearest x f;
}

-- two doubles that are as many units are the same
same_units : (y z : Float) (b : ℕ) → T (fits binary64 y) → T (fits binary64 z) → Units y b → Units z b → y ≡ z
same_units y z b f g u v = sym (of_bits-to_bits binary64 y f) ∙ ap (of_bits binary64) (pattern_of y b u ∙ sym (pattern_of z b v)) ∙ of_bits-to_bits binary64 z g
  where
    written : Bool → ℕ → ℕ
    written s n = let k = size n - 53 in cond s (2 ^ 63) 0 + k * 2 ^ 52 + n / 2 ^ k

    pattern_of : (y : Float) (b : ℕ) → Units y b → to_bits binary64 y ≡ written false b
    pattern_of nan b u = absurd u
    pattern_of (inf s) b u = absurd u
    pattern_of (fin s m e) b u =
        unfold to_bits in (ap (λ (t : Bool). written t (m * up e * 2 ^ 1074 / down e)) u.0 ∙ ap (λ (n : ℕ). written false n) (ap (λ (x : ℕ). x / down e) u.1 ∙ mul-div_cancel b (down_pos e)))

apart : {x y z : Float} (p : Nearest x y) (q : Nearest x z) → p.b < q.b → ⊥
apart {x} {y} {z} p q l =
    let far = p.below z q.b q.double q.root l in
    let near = q.above y p.b p.double p.root l in
    lt_irrefl _ (lt_trans far (rw (value_unique x p.a q.a (2 ^ 1074) p.operand q.operand, add_comm p.b q.b) near))

nearest_unique : {x y z : Float} → Nearest x y → Nearest x z → y ≡ z
nearest_unique {x} {y} {z} p q =
    let same : p.b ≡ q.b = le_antisymm (le_of_not_lt (apart q p)) (le_of_not_lt (apart p q)) in
    same_units y z p.b p.double q.double p.root (rw same q.root)

pub root_unique : (x y z : Float) → IsRoot x y → IsRoot x z → y ≡ z
root_unique nan y z p q = unfold is_nan in p.none tt ∙ sym (q.none tt)
root_unique (inf true) y z p q = unfold is_nan lt in p.none tt ∙ sym (q.none tt)
root_unique (inf false) y z p q = p.of_infinity refl ∙ sym (q.of_infinity refl)
root_unique (fin s zero e) y z p q = let t = subst T (sym (unsized s e)) tt in p.of_zero t ∙ sym (q.of_zero t)
root_unique (fin true (suc m) e) y z p q = unfold is_nan in (let t = subst T (sym (below_zero m e)) tt in p.none t ∙ sym (q.none t))
root_unique (fin false (suc m) e) y z p q = let t = lt→ltb 0 (suc m) (zero-lt-suc m) in nearest_unique (p.nearest t) (q.nearest t)
