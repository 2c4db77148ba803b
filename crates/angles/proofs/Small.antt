-- `Small k x`: x is finite and at most 2 ^ k in size. Sums, products and quotients of small doubles are small, so a series of them has no NaN.
use Rattle.std.proofs.Common.{◌≡◌, ℕ, zero, suc, ◌+◌, ◌-◌, ◌*◌, ◌^◌, ◌<◌, ◌≤◌, Bool, true, false, cond, ◌&&◌, eqb, ltb, pos, sym, ap, ◌∙◌, subst, true≢false, le_trans, le_of_eq, mul-le-mul_right, zero-lt-suc, mul_assoc, mul_comm, mul-le-mul, mul-le-mul_left, mul-pos, one-mul, pow-suc, mul-one, mul_right_comm, le_of_mul-le-mul_right, mul_left_comm, arith, lit<, pow_mono, pow-add}
use mathlib.Core.Bool.{beq}
use lib.Dec.{eqb-suc-zero}
use lib.Pow.{pow-lt}
use lib.Ieee.{Float, nan, inf, fin, binary64, up, down, unlike, round, neg, add, sum, sub, mul, div, le}
use lib.Ieee.Fits.{down_pos}
use lib.Ieee.Exact.{HasValue, round_exact}
use lib.Ieee.Order.{round_mono}
use Rattle.doubles.specs.Arithmetic.{◌⊕◌, ◌⊖◌, ◌⊗◌, ◌⊘◌}
use Rattle.doubles.specs.Order.{◌≼◌}
use Rattle.doubles.proofs.Order.{le→cross, le_trans as le-trans·double, neg-le}
use Rattle.doubles.proofs.Rounding.{round-neg, round_nonneg}

abbrev pub Small : ℕ → Float → Type 0
Small k nan = ⊥
Small k (inf s) = ⊥
Small k (fin s m e) = m * up e ≤ 2 ^ k * down e

pub more_small : (j k : ℕ) (x : Float) → j ≤ k → Small j x → Small k x
more_small j k nan l h = elim h [ ]
more_small j k (inf _) l h = elim h [ ]
more_small j k (fin s m e) l h = le_trans h (mul-le-mul_right (down e) (pow_mono l))

pub neg_small : (k : ℕ) (x : Float) → Small k x → Small k (neg x)
unfolding neg
neg_small k nan h = elim h [ ]
neg_small k (inf _) h = elim h [ ]
neg_small k (fin s m e) h = h

-- ---- a fraction of at most 2 ^ k rounds to at most 2 ^ k
pow_value : (k : ℕ) → k ≤ 1023 → HasValue (round binary64 false (2 ^ k) 1) false (2 ^ k) 1
pow_value k h =
    let l : k + 1074 < 1074 + 1024 = omega arith in
    round_exact binary64 false (2 ^ k) 1 1 (k + 1074) (zero-lt-suc 0) (lit< tt)
    (subst (λ (x : ℕ). x < 2 ^ (1074 + 1024)) (sym (one-mul (2 ^ (k + 1074)))) (pow-lt l))
    (sym (pow-add 2 k 1074) ∙ sym (one-mul (2 ^ (k + 1074))) ∙ sym (mul-one (1 * 2 ^ (k + 1074))))

-- what lies between −b and b, for a b of 2 ^ k
pub within : (k : ℕ) (b x : Float) → HasValue b false (2 ^ k) 1 → neg b ≼ x → x ≼ b → Small k x
unfolding le neg
within k nan x v l h = absurd v
within k (inf t) x v l h = absurd v
within k (fin true n d) x v l h = absurd (true≢false v.0)
within k (fin false n d) nan v l h = absurd h.holds
within k (fin false n d) (inf true) v l h = absurd l.holds
within k (fin false n d) (inf false) v l h = absurd h.holds
within k (fin false n d) (fin s m e) v l h = go s l h
  where
    size : m * up e * down d ≤ n * up d * down e → m * up e ≤ 2 ^ k * down e
    size h = le_of_mul-le-mul_right (le_trans h (le_of_eq (ap (λ (x : ℕ). x * down e) (sym (mul-one (n * up d)) ∙ v.1) ∙ mul_right_comm (2 ^ k) (down d) (down e)))) (down_pos d)

    go : (s : Bool) → fin true n d ≼ fin s m e → fin s m e ≼ fin false n d → m * up e ≤ 2 ^ k * down e
    go true l h = size (omega (arith, le→cross (record { holds = tt }) (record { holds = tt }) l))
    go false l h = size (omega (arith, le→cross (record { holds = tt }) (record { holds = tt }) h))

round_up : (k a c : ℕ) → k ≤ 1023 → 0 < c → a ≤ 2 ^ k * c → Small k (round binary64 false a c)
round_up k a c l C h =
    let one = zero-lt-suc 0 in
    let zeros : neg (fin false 0 (pos 0)) ≼ fin false 0 (pos 0) = record { holds = unfold neg le in tt } in
    within k (round binary64 false (2 ^ k) 1) (round binary64 false a c) (pow_value k l)
    (le-trans·double (neg-le (round_nonneg (2 ^ k) 1 one)) (le-trans·double zeros (round_nonneg a c C)))
    (record { holds = round_mono binary64 a c (2 ^ k) 1 C one (le_trans (le_of_eq (mul-one a)) h) })

pub round_small : (k : ℕ) (s : Bool) (a c : ℕ) → k ≤ 1023 → 0 < c → a ≤ 2 ^ k * c → Small k (round binary64 s a c)
round_small k false a c l C h = round_up k a c l C h
round_small k true a c l C h = rw round-neg (neg_small k (round binary64 false a c) (round_up k a c l C h))

-- ---- the operations
double : (k c : ℕ) → 2 ^ suc k * c ≡ 2 ^ k * c + 2 ^ k * c
double k c = ap (λ (x : ℕ). x * c) (pow-suc 2 k) ∙ mul_right_comm (2 ^ k) 2 c ∙ twice (2 ^ k * c)
  where
    twice : (x : ℕ) → x * 2 ≡ x + x
    twice x = omega arith

sum_small : (k : ℕ) (s : Bool) (a : ℕ) (t : Bool) (b c : ℕ) → suc k ≤ 1023 → 0 < c → a ≤ 2 ^ k * c → b ≤ 2 ^ k * c → Small (suc k) (sum binary64 s a t b c)
unfolding sum
sum_small k s a t b c l C p q = go (beq s t) (ltb a b)
  where
    fit : (x : ℕ) → x ≤ a + b → x ≤ 2 ^ suc k * c
    fit x h = le_trans h (le_trans (omega arith) (le_of_eq (sym (double k c))))

    go : (x y : Bool) → Small (suc k) (cond x (round binary64 s (a + b) c) (cond y (round binary64 t (b - a) c) (round binary64 (s && ltb b a) (a - b) c)))
    go true y = round_small (suc k) s (a + b) c l C (fit (a + b) (omega arith))
    go false true = round_small (suc k) t (b - a) c l C (fit (b - a) (omega arith))
    go false false = round_small (suc k) (s && ltb b a) (a - b) c l C (fit (a - b) (omega arith))

pub add_small : (k : ℕ) (x y : Float) → suc k ≤ 1023 → Small k x → Small k y → Small (suc k) (x ⊕ y)
unfolding add
add_small k nan y l p q = elim p [ ]
add_small k (inf _) y l p q = elim p [ ]
add_small k (fin s m e) nan l p q = elim q [ ]
add_small k (fin s m e) (inf _) l p q = elim q [ ]
add_small k (fin s m e) (fin t n d) l p q =
    sum_small k s (m * up e * down d) t (n * up d * down e) (down e * down d) l (mul-pos (down_pos e) (down_pos d))
    (le_trans (mul-le-mul_right (down d) p) (le_of_eq (mul_assoc (2 ^ k) (down e) (down d))))
    (le_trans (mul-le-mul_right (down e) q) (le_of_eq (mul_assoc (2 ^ k) (down d) (down e) ∙ ap (λ (x : ℕ). 2 ^ k * x) (mul_comm (down d) (down e)))))

pub sub_small : (k : ℕ) (x y : Float) → suc k ≤ 1023 → Small k x → Small k y → Small (suc k) (x ⊖ y)
unfolding sub
sub_small k x y l p q = add_small k x (neg y) l p (neg_small k y q)

pub mul_small : (j k : ℕ) (x y : Float) → j + k ≤ 1023 → Small j x → Small k y → Small (j + k) (x ⊗ y)
unfolding mul
mul_small j k nan y l p q = elim p [ ]
mul_small j k (inf _) y l p q = elim p [ ]
mul_small j k (fin s m e) nan l p q = elim q [ ]
mul_small j k (fin s m e) (inf _) l p q = elim q [ ]
mul_small j k (fin s m e) (fin t n d) l p q =
    round_small (j + k) (unlike s t) (m * up e * (n * up d)) (down e * down d) l (mul-pos (down_pos e) (down_pos d))
    (le_trans (mul-le-mul p q) (le_of_eq (simp (mul_assoc, mul_comm, mul_left_comm, pow-add))))

-- by a whole number from 1 on
abbrev pub Divisor : Float → Type 0
Divisor nan = ⊥
Divisor (inf s) = ⊥
Divisor (fin s m e) = down e ≤ m * up e

pub by_value : (x : Float) (n : ℕ) → 0 < n → HasValue x false n 1 → Divisor x
by_value nan n h v = elim v [ ]
by_value (inf _) n h v = elim v [ ]
by_value (fin s m e) n h v = le_trans (le_trans (le_of_eq (sym (one-mul (down e)))) (mul-le-mul_right (down e) h)) (le_of_eq (sym v.1 ∙ mul-one (m * up e)))

above : (d n u : ℕ) → 0 < d → d ≤ n * u → eqb n 0 ≡ false
above d zero u D h = absurd (omega arith)
above d (suc n) u D h = eqb-suc-zero n

pub div_small : (k : ℕ) (x y : Float) → k ≤ 1023 → Small k x → Divisor y → Small k (x ⊘ y)
unfolding div
div_small k nan y l p q = elim p [ ]
div_small k (inf _) y l p q = elim p [ ]
div_small k (fin s m e) nan l p q = elim q [ ]
div_small k (fin s m e) (inf _) l p q = elim q [ ]
div_small k (fin s m e) (fin t n d) l p q =
    rw (above (down d) n (up d) (down_pos d) q)
    (round_small k (unlike s t) (m * up e * down d) (n * up d * down e) l (mul-pos (le_trans (down_pos d) q) (down_pos e))
    (le_trans (mul-le-mul_right (down d) p)
    (le_trans (le_of_eq (mul_assoc (2 ^ k) (down e) (down d) ∙ ap (λ (x : ℕ). 2 ^ k * x) (mul_comm (down e) (down d))))
    (mul-le-mul_left (2 ^ k) (mul-le-mul_right (down e) q)))))
