-- The bit patterns of the positive doubles: what each stands for, and that the pattern made of a root's digits is the root. Assumes nothing.
use mathlib.Core.Path.{◌≡◌, refl, sym, ap, ◌∙◌, subst}
use mathlib.Core.Bool.{Bool, true, false, not, cond, false≢true}
use Prim.Native.Nat.{ℕ, zero, suc, ◌+◌, ◌-◌, ◌*◌, ◌/◌, ◌%◌, ◌^◌, ◌≤◌, ◌<◌}
use native.Mathlib.Nat.{mul-one, zero-add, zero-lt-suc}
use native.Mathlib.Omega.{arith}
use lib.IntN.{ℤ, pos, negsuc}
use lib.Dec.{T, leb, ltb, eqb, leb→le, nleb→lt, ltb→lt, eqb→eq, not_T}
use lib.Arith.{lt→nleb}
use lib.Count.{count_trailing_zeros}
use lib.Ieee.{Float, nan, inf, fin, binary64, minus, odd, of_fields, of_bits, to_bits, fits, nan_bits, is_nan, lt}
use lib.Ieee.Fits.{eq→eqb}
use lib.Ieee.Bits.{is_false, cond_no, of_bits-to_bits, to_bits-lt, nan_bits_above}
use lib.Ieee.Positive.{positive}
use lib.Ieee.Exact.{HasValue, odd_sign}

-- the weight of the exponent's field, the pattern of the infinity, and the weight of the sign
abbrev pub hidden : ℕ
hidden = 0x10_0000_0000_0000

abbrev pub infinite : ℕ
infinite = 0x7ff0_0000_0000_0000

abbrev pub signed : ℕ
signed = 0x8000_0000_0000_0000

-- a pattern by its fields
fields : (b : ℕ) → of_bits binary64 b ≡ of_fields binary64 (leb signed b) (b % signed / hidden) (b % hidden)
unfolding of_bits
fields b = refl

unsigned : (b : ℕ) → b < infinite → of_bits binary64 b ≡ of_fields binary64 false (b / hidden) (b % hidden)
unsigned b h =
    fields b
    ∙ ap (λ (s : Bool). of_fields binary64 s (b % signed / hidden) (b % hidden)) (is_false (leb signed b) (lt→nleb signed b (small b h)))
    ∙ ap (λ (x : ℕ). of_fields binary64 false x (b % hidden)) (rest b h)
  where
    small : (b : ℕ) → b < infinite → b < signed
    small b h = omega arith

    rest : (b : ℕ) → b < infinite → b % signed / hidden ≡ b / hidden
    rest b h = omega arith

-- a pattern with no exponent is its own number of units
pub subnormal : (b : ℕ) → b < hidden → HasValue (of_bits binary64 b) false b (2 ^ 1074)
subnormal b h =
    subst (λ (x : Float). HasValue x false b (2 ^ 1074)) (sym (unsigned b (small b h) ∙ ap (λ (x : ℕ). of_fields binary64 false x (b % hidden)) (none b h) ∙ ap (λ (t : ℕ). of_fields binary64 false 0 t) (all b h) ∙ at_zero b))
    (subst (λ (a : ℕ). HasValue (odd 53 false b 0 1074) false a (2 ^ 1074)) (mul-one b) (odd_sign 53 false b 0 1074))
  where
    small : (b : ℕ) → b < hidden → b < infinite
    small b h = omega arith

    none : (b : ℕ) → b < hidden → b / hidden ≡ 0
    none b h = omega arith

    all : (b : ℕ) → b < hidden → b % hidden ≡ b
    all b h = omega arith

    at_zero : (t : ℕ) → of_fields binary64 false 0 t ≡ odd 53 false t 0 1074
    at_zero t = unfold of_fields in refl

-- any other, below the infinity, has a leading digit more
pub normal : (b : ℕ) → hidden ≤ b → b < infinite → of_bits binary64 b ≡ odd 53 false (hidden + b % hidden) (b / hidden - 1) 1074
normal b l h =
    unsigned b h
    ∙ ap (λ (x : ℕ). of_fields binary64 false x (b % hidden)) (sym (field b l))
    ∙ under (b / hidden - 1) (b % hidden) (not_top b l h)
  where
    field : (b : ℕ) → hidden ≤ b → suc (b / hidden - 1) ≡ b / hidden
    field b l = omega arith

    not_top : (b : ℕ) → hidden ≤ b → b < infinite → suc (b / hidden - 1) ≡ 2047 → ⊥
    not_top b l h e = omega arith

    under : (x t : ℕ) → (suc x ≡ 2047 → ⊥) → of_fields binary64 false (suc x) t ≡ odd 53 false (hidden + t) x 1074
    under x t n = unfold of_fields in cond_no (eqb (suc x) 2047) (cond (eqb t 0) (inf false) nan) (odd 53 false (hidden + t) x 1074) (not_T (eqb (suc x) 2047) (λ (u : T (eqb (suc x) 2047)). n (eqb→eq (suc x) 2047 u)))

-- ---- r · 2^k / 2^590 as a pattern

minus_shift : (a l c : ℕ) → minus (a + c) (l + c) ≡ minus a l
minus_shift a l c = go (leb (l + c) (a + c)) (leb l a) (leb→le (l + c) (a + c)) (nleb→lt (l + c) (a + c)) (leb→le l a) (nleb→lt l a)
  where
    up : (a l c : ℕ) → l ≤ a → a + c - (l + c) ≡ a - l
    up a l c h = omega arith

    down : (a l c : ℕ) → a < l → l + c - suc (a + c) ≡ l - suc a
    down a l c h = omega arith

    no : (a l c : ℕ) → l + c ≤ a + c → a < l → ⊥
    no a l c h k = omega arith

    on : (a l c : ℕ) → a + c < l + c → l ≤ a → ⊥
    on a l c h k = omega arith

    go : (p q : Bool) → (T p → l + c ≤ a + c) → (T (not p) → a + c < l + c) → (T q → l ≤ a) → (T (not q) → a < l)
        → cond p (pos (a + c - (l + c))) (negsuc (l + c - suc (a + c))) ≡ cond q (pos (a - l)) (negsuc (l - suc a))
    go true true f g h k = ap pos (up a l c (h tt))
    go true false f g h k = absurd (no a l c (f tt) (k tt))
    go false true f g h k = absurd (on a l c (g tt) (h tt))
    go false false f g h k = ap negsuc (down a l c (k tt))

pub odd_shift : (q k l c : ℕ) → odd 53 false q (k + c) (l + c) ≡ odd 53 false q k l
unfolding odd
odd_shift zero k l c = refl
odd_shift (suc q) k l c =
    let t = count_trailing_zeros 53 (suc q) in
    ap (λ (z : ℤ). fin false (suc q / 2 ^ t) z) (ap (λ (x : ℕ). minus x (l + c)) (swap k c t) ∙ minus_shift (k + t) l c)
  where
    swap : (k c t : ℕ) → k + c + t ≡ k + t + c
    swap k c t = omega arith

pub pattern : (r k : ℕ) → hidden ≤ r → r < 2 * hidden → k ≤ 1050 → of_bits binary64 ((k + 484) * hidden + r) ≡ odd 53 false r k 590
pattern r k lo hi h =
    normal ((k + 484) * hidden + r) (above r k lo) (below r k hi h)
    ∙ ap (λ (q : ℕ). odd 53 false q (((k + 484) * hidden + r) / hidden - 1) 1074) (digits r k lo hi)
    ∙ ap (λ (x : ℕ). odd 53 false r x 1074) (field r k lo hi)
    ∙ odd_shift r k 590 484
  where
    above : (r k : ℕ) → hidden ≤ r → hidden ≤ (k + 484) * hidden + r
    above r k lo = omega arith

    below : (r k : ℕ) → r < 2 * hidden → k ≤ 1050 → (k + 484) * hidden + r < infinite
    below r k hi h = omega arith

    digits : (r k : ℕ) → hidden ≤ r → r < 2 * hidden → hidden + ((k + 484) * hidden + r) % hidden ≡ r
    digits r k lo hi = omega arith

    field : (r k : ℕ) → hidden ≤ r → r < 2 * hidden → ((k + 484) * hidden + r) / hidden - 1 ≡ k + 484
    field r k lo hi = omega arith

-- ---- the pattern of a positive double

odd_positive : (s : Bool) (q k : ℕ) → T (positive (odd 53 s q k 1074)) → (s ≡ false) × (0 < q)
unfolding odd
odd_positive true zero k t = absurd t
odd_positive false zero k t = absurd t
odd_positive true (suc q) k t = absurd t
odd_positive false (suc q) k t = (refl, zero-lt-suc q)

fields_positive : (s : Bool) (x t : ℕ) → T (positive (of_fields binary64 s x t)) → (s ≡ false) × (x ≡ 2047 → ⊥) × (0 < x + t)
unfolding of_fields
fields_positive s zero t p =
    let o = odd_positive s t 0 p in
    (o.0, λ e. no e, subst (λ (y : ℕ). 0 < y) (sym (zero-add t)) o.1)
  where
    no : ◌≡◌ {A = ℕ} 0 2047 → ⊥
    no e = omega arith
fields_positive s (suc x) t p = go (eqb (suc x) 2047) (eq→eqb) p
  where
    some : (x t : ℕ) → 0 < suc x + t
    some x t = omega arith

    go : (b : Bool) → (suc x ≡ 2047 → T b) → T (positive (cond b (cond (eqb t 0) (inf s) nan) (odd 53 s (hidden + t) x 1074))) → (s ≡ false) × (suc x ≡ 2047 → ⊥) × (0 < suc x + t)
    go true e u = absurd (none (eqb t 0) u)
      where
        none : (c : Bool) → T (positive (cond c (inf s) nan)) → ⊥
        none true v = v
        none false v = v
    go false e u = ((odd_positive s (hidden + t) x u).0, e, some x t)

pub positive_pattern : (b : ℕ) → b < 2 ^ 64 → T (positive (of_bits binary64 b)) → (0 < b) × (b < infinite)
positive_pattern b h p =
    let f = fields_positive (leb signed b) (b % signed / hidden) (b % hidden) (subst (λ (x : Float). T (positive x)) (fields b) p) in
    within b (nleb→lt signed b (subst (λ (c : Bool). T (not c)) (sym f.0) tt)) f.1 f.2
  where
    within : (b : ℕ) → b < signed → (b % signed / hidden ≡ 2047 → ⊥) → 0 < b % signed / hidden + b % hidden → (0 < b) × (b < infinite)
    within b h n p = omega arith

pub positive_bits : (x : Float) → T (fits binary64 x) → T (positive x) → (0 < to_bits binary64 x) × (to_bits binary64 x < infinite)
positive_bits x h p = positive_pattern (to_bits binary64 x) (to_bits-lt binary64 x h) (subst (λ (y : Float). T (positive y)) (sym (of_bits-to_bits binary64 x h)) p)

-- ---- where a pattern is no NaN's, and a value no NaN

pub finite_bits : (b : ℕ) → b < infinite → T (not (nan_bits binary64 b))
finite_bits b h = subst (λ (c : Bool). T (not c)) (sym (nan_bits_above binary64 b)) (not_T (ltb infinite (b % signed)) (λ t. no b h (ltb→lt infinite (b % signed) t)))
  where
    no : (b : ℕ) → b < infinite → infinite < b % signed → ⊥
    no b h l = omega arith

pub above_number : (x y : Float) → lt x y ≡ true → T (not (is_nan y))
unfolding lt is_nan
above_number nan nan e = absurd (false≢true e)
above_number (inf s) nan e = absurd (false≢true e)
above_number (fin s m d) nan e = absurd (false≢true e)
above_number x (inf s) e = tt
above_number x (fin s m d) e = tt
