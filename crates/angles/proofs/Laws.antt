-- Laws for those who use the functions: a sine or a cosine of an angle lies from −1 to 1, and is NaN just where there is no angle.
use Rattle.std.proofs.Common.{◌≡◌, ℕ, zero, suc, ◌+◌, ◌-◌, ◌*◌, ◌^◌, ◌<◌, ◌≤◌, Bool, true, false, T, refl, le_trans, zero-lt-suc, mul-le-mul, mul-pos, arith, lit≤}
use lib.Ieee.Bits.{is_true}
use lib.Ieee.{Float, nan, fin, binary64, neg, lt, le, eq, of_int, to_unsigned, is_nan, fits}
use Rattle.doubles.specs.Arithmetic.{◌⊖◌, ◌⊗◌, ◌⊘◌, whole, bits}
use Rattle.doubles.specs.Functions.{floor_of}
use Rattle.doubles.specs.Order.{Bounded, Number}
use Rattle.doubles.proofs.Clamping.{clamp_range}
use Rattle.doubles.specs.Series.{horner}
use Rattle.angles.specs.Sine.{is_angle, quarter_turns, quadrant, remainder, sine_step, cosine_step, sine_sum, cosine_sum, sine_series, cosine_series, sine_at, cosine_at, of_angle, sine, cosine}
use Rattle.angles.proofs.Small.{Small, more_small, neg_small, round_small, sub_small, mul_small, div_small, by_value}
use Rattle.angles.proofs.Turns.{whole_value, part_le, cut, floor_up, floor_level, floor_down}
use Rattle.angles.proofs.Reduction.{unfloored, angle_small, unfloored_small, unfloored_fits}

-- ---- NaN
pub sine_no_angle : (a : Float) → is_angle a ≡ false → sine a ≡ nan
unfolding sine
sine_no_angle a h = simp h

pub cosine_no_angle : (a : Float) → is_angle a ≡ false → cosine a ≡ nan
unfolding cosine
cosine_no_angle a h = simp h

-- ---- the reduced angle, and each series of it, is small
floor_small : (v : Float) → T (fits binary64 v) → Small 7 v → Small 8 (floor_of v)
floor_small v f h = go (lt (whole 0) v) (eq (neg (whole (cut v))) v) refl refl
  where
    whole_small : (n : ℕ) → n ≤ 2 ^ 8 → Small 8 (whole n)
    whole_small n l = unfold whole of_int in round_small 8 false n 1 (lit≤ tt) (zero-lt-suc 0) (omega arith)

    go : (p q : Bool) → lt (whole 0) v ≡ p → eq (neg (whole (cut v))) v ≡ q → Small 8 (floor_of v)
    go true q t e = rw (floor_up v f h t) (whole_small (to_unsigned 64 v) (omega (arith, part_le v h)))
    go false true t e = rw (floor_level v f h t e).0 (more_small 7 8 v (lit≤ tt) h)
    go false false t e = rw (floor_down v f h t e) (neg_small 8 (whole (cut v + 1)) (whole_small (cut v + 1) (omega (arith, part_le (neg v) (neg_small 7 v h)))))

remainder_small : (a k : Float) → Small 6 a → Small 8 k → Small 11 (remainder a k)
unfolding remainder bits
remainder_small a k h l =
    let p = mul_small 8 1 k (bits 0x3FF921FB54400000) (lit≤ tt) l (lit≤ tt) in
    let q = mul_small 8 0 k (bits 0x3DD0B4611A626331) (lit≤ tt) l (lit≤ tt) in
    let s = sub_small 9 a (k ⊗ bits 0x3FF921FB54400000) (lit≤ tt) (more_small 6 9 a (lit≤ tt) h) p in
    sub_small 10 (a ⊖ k ⊗ bits 0x3FF921FB54400000) (k ⊗ bits 0x3DD0B4611A626331) (lit≤ tt) s (more_small 8 10 (k ⊗ bits 0x3DD0B4611A626331) (lit≤ tt) q)

angle_rest : (a : Float) → is_angle a ≡ true → Small 11 (remainder a (quarter_turns a))
unfolding quarter_turns unfloored
angle_rest a h = remainder_small a (quarter_turns a) (angle_small a h) (floor_small (unfloored a) (unfloored_fits a) (unfloored_small a h))

-- one step: 1 − (t/d)·h, for a d from 1 on
step_small : (t h : Float) (d j : ℕ) → 0 < d → d ≤ 2 ^ 53 → j + 23 ≤ 1023 → Small 22 t → Small j h → Small (j + 23) (whole 1 ⊖ (t ⊘ whole d) ⊗ h)
unfolding whole
step_small t h d j D l r p q =
    let r' : suc (22 + j) ≤ 1023 = omega arith in
    let r'' : 22 + j ≤ 1023 = omega arith in
    let z : 0 ≤ 22 + j = omega arith in
    let e : suc (22 + j) ≤ j + 23 = omega arith in
    more_small (suc (22 + j)) (j + 23) (whole 1 ⊖ (t ⊘ whole d) ⊗ h) e
    (sub_small (22 + j) (whole 1) ((t ⊘ whole d) ⊗ h) r' (more_small 0 (22 + j) (whole 1) z (lit≤ tt))
    (mul_small 22 j (t ⊘ whole d) h r'' (div_small 22 t (whole d) (lit≤ tt) p (by_value (whole d) d D (whole_value d l))) q))

horner_small : (step : ℕ → Float → Float) → ((n : ℕ) (h : Float) (j : ℕ) → suc n ≤ 8 → j + 23 ≤ 1023 → Small j h → Small (j + 23) (step (suc n) h))
    → (n : ℕ) (h : Float) (j : ℕ) → n ≤ 8 → j + 23 * n ≤ 1023 → Small j h → Small (j + 23 * n) (horner step n h)
unfolding horner
horner_small step good zero h j l r p = let e : j ≤ j + 23 * 0 = omega arith in more_small j (j + 23 * 0) h e p
horner_small step good (suc n) h j l r p =
    let l' : n ≤ 8 = omega arith in
    let r' : j + 23 + 23 * n ≤ 1023 = omega arith in
    let r'' : j + 23 ≤ 1023 = omega arith in
    let e : j + 23 + 23 * n ≤ j + 23 * suc n = omega arith in
    more_small (j + 23 + 23 * n) (j + 23 * suc n) (horner step n (step (suc n) h)) e
    (horner_small step good n (step (suc n) h) (j + 23) l' r' (good n h j l r'' p))

sine_series_small : (r : Float) → Small 11 r → Small 195 (sine_series r)
unfolding sine_series sine_sum whole
sine_series_small r h =
    mul_small 184 11 (horner (sine_step (r ⊗ r)) 8 (whole 1)) r (lit≤ tt)
    (horner_small (sine_step (r ⊗ r)) good 8 (whole 1) 0 (lit≤ tt) (lit≤ tt) (lit≤ tt)) h
  where
    good : (n : ℕ) (h : Float) (j : ℕ) → suc n ≤ 8 → j + 23 ≤ 1023 → Small j h → Small (j + 23) (sine_step (r ⊗ r) (suc n) h)
    good n x j l m q =
        let a : 2 * suc n ≤ 16 = omega arith in
        let b : 2 * suc n + 1 ≤ 17 = omega arith in
        let c : 0 < 2 * suc n = omega arith in
        let d : 0 < 2 * suc n + 1 = omega arith in
        unfold sine_step in
        (step_small (r ⊗ r) x (2 * suc n * (2 * suc n + 1)) j (mul-pos c d) (le_trans (mul-le-mul a b) (lit≤ tt)) m (mul_small 11 11 r r (lit≤ tt) h h) q)

cosine_series_small : (r : Float) → Small 11 r → Small 195 (cosine_series r)
unfolding cosine_series cosine_sum whole
cosine_series_small r h =
    more_small 184 195 (horner (cosine_step (r ⊗ r)) 8 (whole 1)) (lit≤ tt)
    (horner_small (cosine_step (r ⊗ r)) good 8 (whole 1) 0 (lit≤ tt) (lit≤ tt) (lit≤ tt))
  where
    good : (n : ℕ) (h : Float) (j : ℕ) → suc n ≤ 8 → j + 23 ≤ 1023 → Small j h → Small (j + 23) (cosine_step (r ⊗ r) (suc n) h)
    good n x j l m q =
        let a : 2 * suc n - 1 ≤ 15 = omega arith in
        let b : 2 * suc n ≤ 16 = omega arith in
        let c : 0 < 2 * suc n - 1 = omega arith in
        let d : 0 < 2 * suc n = omega arith in
        unfold cosine_step in
        (step_small (r ⊗ r) x ((2 * suc n - 1) * (2 * suc n)) j (mul-pos c d) (le_trans (mul-le-mul a b) (lit≤ tt)) m (mul_small 11 11 r r (lit≤ tt) h h) q)

-- ---- from −1 to 1
small_number : (k : ℕ) (x : Float) → Small k x → Number x
unfolding is_nan
small_number k nan h = elim h [ ]
small_number k (lib.Ieee.inf _) h = elim h [ ]
small_number k (fin s m e) h = record { holds = tt }

sine_at_small : (q k : ℕ) (s c : Float) → Small k s → Small k c → Small k (sine_at q s c)
unfolding sine_at
sine_at_small zero k s c p r = p
sine_at_small (suc zero) k s c p r = r
sine_at_small (suc (suc zero)) k s c p r = neg_small k s p
sine_at_small (suc (suc (suc q))) k s c p r = neg_small k c r

cosine_at_small : (q k : ℕ) (s c : Float) → Small k s → Small k c → Small k (cosine_at q s c)
unfolding cosine_at
cosine_at_small zero k s c p r = r
cosine_at_small (suc zero) k s c p r = neg_small k s p
cosine_at_small (suc (suc zero)) k s c p r = neg_small k c r
cosine_at_small (suc (suc (suc q))) k s c p r = p

of_range : (at : ℕ → Float → Float → Float) → ((q k : ℕ) (s c : Float) → Small k s → Small k c → Small k (at q s c)) → (a : Float) → is_angle a ≡ true → Bounded (whole 1) (of_angle at a)
unfolding of_angle
of_range at small a h =
    let r = remainder a (quarter_turns a) in
    let s = angle_rest a h in
    rw h (clamp_range (small_number 195 (at (quadrant (quarter_turns a)) (sine_series r) (cosine_series r))
    (small (quadrant (quarter_turns a)) 195 (sine_series r) (cosine_series r) (sine_series_small r s) (cosine_series_small r s))))

pub is_angle_lem : {a : Float} → Bounded (whole 64) a → is_angle a ≡ true
unfolding is_angle
is_angle_lem {a} h = simp (is_true (le (neg (whole 64)) a) h.from.holds, is_true (le a (whole 64)) h.to.holds)

-- of an angle they are numbers from −1 to 1
pub sine_range : {a : Float} → Bounded (whole 64) a → Bounded (whole 1) (sine a)
unfolding sine
sine_range {a} h = of_range sine_at sine_at_small a (is_angle_lem h)

pub cosine_range : {a : Float} → Bounded (whole 64) a → Bounded (whole 1) (cosine a)
unfolding cosine
cosine_range {a} h = of_range cosine_at cosine_at_small a (is_angle_lem h)

-- so NaN comes only of what is no angle
no_nan : (x : Float) (b : Bool) → (b ≡ true → Bounded (whole 1) x) → x ≡ nan → b ≡ false
unfolding le whole
no_nan x false f h = refl
no_nan x true f h = absurd (rw h at (f refl)).to.holds

pub sine-nan : (a : Float) → sine a ≡ nan → is_angle a ≡ false
unfolding sine
sine-nan a h = no_nan (sine a) (is_angle a) (of_range sine_at sine_at_small a) h

pub cosine-nan : (a : Float) → cosine a ≡ nan → is_angle a ≡ false
unfolding cosine
cosine-nan a h = no_nan (cosine a) (is_angle a) (of_range cosine_at cosine_at_small a) h
