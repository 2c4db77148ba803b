-- What the reduction of an angle gives, and what sine and cosine are by it.
use Rattle.std.proofs.Common.{◌≡◌, ℕ, zero, suc, ◌+◌, ◌-◌, ◌%◌, ◌≤◌, Bool, true, false, cond, T, sym, refl, ap, ◌∙◌, subst, le_trans, Some, None, le_of_eq, arith, lit≤}
use Rattle.std.proofs.lemmas.Option.{cond_some, none-some}
use lib.Ieee.{Float, nan, binary64, neg, lt, le, eq, to_unsigned, fits}
use lib.Ieee.Fits.{add-fits, and_l, and_r}
use Rattle.doubles.specs.Arithmetic.{◌⊕◌, ◌⊗◌, whole, bits, decimal}
use Rattle.doubles.specs.Functions.{clamp}
use Rattle.angles.specs.Sine.{is_angle, quarter_turns, quadrant, remainder, sine_sum, cosine_sum, sine_series, cosine_series, sine_at, cosine_at, of_angle}
use Rattle.angles.specs.Reduction.{reduction}
use Rattle.angles.specs.declared.Reduced.{Reduced}
use Rattle.angles.proofs.Small.{Small, within, neg_small, add_small, mul_small}
use Rattle.angles.proofs.Turns.{Cuttable, cut, part_le, floor_up, floor_level, floor_down, quadrant_up, quadrant_next, cuttable_up, cuttable_down}

-- what k is the floor of
unfoldable pub unfloored : Float → Float
unfolding bits decimal
unfloored a = a ⊗ bits 0x3FE45F306DC9C883 ⊕ decimal 5 1

-- ---- an angle is small, and so are its quarter turns
pub angle_small : (a : Float) → is_angle a ≡ true → Small 6 a
unfolding is_angle whole
angle_small a t =
    let u = subst T (sym t) tt in
    within 6 (whole 64) a (refl, refl) (record { holds = and_l (le (neg (whole 64)) a) (le a (whole 64)) u }) (record { holds = and_r (le (neg (whole 64)) a) (le a (whole 64)) u })

pub unfloored_small : (a : Float) → is_angle a ≡ true → Small 7 (unfloored a)
unfolding unfloored bits decimal
unfloored_small a t =
    add_small 6 (a ⊗ bits 0x3FE45F306DC9C883) (decimal 5 1) (lit≤ tt)
    (mul_small 6 0 a (bits 0x3FE45F306DC9C883) (lit≤ tt) (angle_small a t) (lit≤ tt)) (lit≤ tt)

pub unfloored_fits : (a : Float) → T (fits binary64 (unfloored a))
unfolding unfloored
unfloored_fits a = add-fits binary64 _ _

-- ---- the three ways of `reduce`
pub ask_up : (a : Float) → is_angle a ≡ true → lt (whole 0) (unfloored a) ≡ true → Cuttable (unfloored a)
ask_up a h t = cuttable_up (unfloored a) (unfloored_small a h) t

pub ask_down : (a : Float) → is_angle a ≡ true → lt (whole 0) (unfloored a) ≡ false → Cuttable (neg (unfloored a))
ask_down a h t = cuttable_down (unfloored a) (unfloored_fits a) (unfloored_small a h) t

pub up_le : (a : Float) (n : ℕ) → is_angle a ≡ true → n ≡ to_unsigned 64 (unfloored a) → n ≤ 128
up_le a n h e = le_trans (le_of_eq e) (part_le (unfloored a) (unfloored_small a h))

pub down_le : (a : Float) (n : ℕ) → is_angle a ≡ true → n ≡ cut (unfloored a) → n ≤ 128
down_le a n h e = le_trans (le_of_eq e) (part_le (neg (unfloored a)) (neg_small 7 (unfloored a) (unfloored_small a h)))

reduced : (a : Float) {k : Float} {q : ℕ} (o : Reduced) → is_angle a ≡ true → quarter_turns a ≡ k → quadrant k ≡ q → (o.quadrant ≡ q) × (o.rest ≡ remainder a k) → Some o ≡ reduction a
unfolding reduction
reduced a {k} o h t p e =
    let same : o ≡ record { quadrant = quadrant k; rest = remainder a k } = λ i. record { quadrant = (e.0 ∙ sym p) i; rest = e.1 i } in
    rw (h, t) (ap (λ (x : Reduced). Some x) same)

pub reduced_up : (a : Float) {n : ℕ} (o : Reduced) → is_angle a ≡ true → lt (whole 0) (unfloored a) ≡ true → n ≡ to_unsigned 64 (unfloored a)
    → (o.quadrant ≡ n % 4) × (o.rest ≡ remainder a (whole n)) → Some o ≡ reduction a
unfolding quarter_turns unfloored
reduced_up a {n} o h t e u =
    let l : n ≤ 1000 = le_trans (up_le a n h e) (lit≤ tt) in
    reduced a o h (floor_up (unfloored a) (unfloored_fits a) (unfloored_small a h) t ∙ ap whole (sym e)) (quadrant_up n l) u

pub reduced_level : (a : Float) {n : ℕ} (o : Reduced) → is_angle a ≡ true → lt (whole 0) (unfloored a) ≡ false → n ≡ cut (unfloored a) → eq (neg (whole n)) (unfloored a) ≡ true
    → (o.quadrant ≡ (4 - n % 4) % 4) × (o.rest ≡ remainder a (unfloored a)) → Some o ≡ reduction a
unfolding quarter_turns unfloored
reduced_level a o h t e s u =
    let f = floor_level (unfloored a) (unfloored_fits a) (unfloored_small a h) t (rw e at s) in
    reduced a o h f.0 (f.1 ∙ ap (λ (x : ℕ). (4 - x % 4) % 4) (sym e)) u

pub reduced_down : (a : Float) {n : ℕ} (o : Reduced) → is_angle a ≡ true → lt (whole 0) (unfloored a) ≡ false → n ≡ cut (unfloored a) → eq (neg (whole n)) (unfloored a) ≡ false
    → (o.quadrant ≡ 3 - n % 4) × (o.rest ≡ remainder a (neg (whole (n + 1)))) → Some o ≡ reduction a
unfolding quarter_turns unfloored
reduced_down a {n} o h t e s u =
    reduced a o h
    (floor_down (unfloored a) (unfloored_fits a) (unfloored_small a h) t (rw e at s) ∙ ap (λ (x : ℕ). neg (whole (x + 1))) (sym e))
    (quadrant_next n (down_le a n h e)) u

pub reduced_none : (a : Float) → is_angle a ≡ false → None ≡ reduction a
unfolding reduction
reduced_none a h = rw h refl

-- ---- from a reduced angle to sine or cosine
pub at_angle : (a : Float) {s c : Float} (at : ℕ → Float → Float → Float) (o : Reduced) (n : ℕ) → Some o ≡ reduction a → s ≡ sine_sum (o.rest ⊗ o.rest) → c ≡ cosine_sum (o.rest ⊗ o.rest)
    → o.quadrant ≡ n → of_angle at a ≡ clamp (at n (s ⊗ o.rest) c)
unfolding of_angle reduction sine_series cosine_series
at_angle a at o n d u v e =
    let k = quarter_turns a in
    let b = cond_some (is_angle a) (record { quadrant = quadrant k; rest = remainder a k }) o (sym d) in
    rw (u, v, ← e, ← b.1, b.0) refl

pub at_none : (a : Float) (at : ℕ → Float → Float → Float) → None ≡ reduction a → of_angle at a ≡ nan
unfolding of_angle reduction
at_none a at d = go (is_angle a) _ _ d
  where
    go : (b : Bool) (o : Reduced) (x : Float) → None ≡ cond b (Some o) None → cond b x nan ≡ nan
    go true o x d = absurd (none-some o d)
    go false o x d = refl

-- in the last quadrant
pub last_sine : (q : ℕ) (s c : Float) → 3 ≤ q → sine_at q s c ≡ neg c
unfolding sine_at
last_sine zero s c h = absurd (omega arith)
last_sine (suc zero) s c h = absurd (omega arith)
last_sine (suc (suc zero)) s c h = absurd (omega arith)
last_sine (suc (suc (suc n))) s c h = refl

pub last_cosine : (q : ℕ) (s c : Float) → 3 ≤ q → cosine_at q s c ≡ s
unfolding cosine_at
last_cosine zero s c h = absurd (omega arith)
last_cosine (suc zero) s c h = absurd (omega arith)
last_cosine (suc (suc zero)) s c h = absurd (omega arith)
last_cosine (suc (suc (suc n))) s c h = refl
