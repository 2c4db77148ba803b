-- `roots::whole_root` meets its contract. The invariant: r is the root of the part of h that gives its first i digits. Assumes nothing.
use mathlib.Core.Path.{◌≡◌, refl, sym, ap, ◌∙◌, subst}
use mathlib.Core.Bool.{Bool, true, false, cond}
use Prim.Native.Nat.{ℕ, ◌+◌, ◌*◌, ◌-◌, ◌/◌, ◌^◌, ◌≤◌, ◌<◌}
use native.Mathlib.Nat.{lt_of_lt_of_le, mul-le-mul}
use native.Mathlib.Omega.{arith}
use borrow.Author.Tests.{le-leb, lt-leb}
use lib.Dec.{leb}
use lib.Pow.{pow_mono}
use mir.Val.{Fits}
use mir.Syntax.{w64}
use Rattle.roots.specs.Root.{whole_root}
use Rattle.roots.proofs.Whole.{part, next_digit, whole_lt}
use Rattle.roots.proofs.whole_root.Goals as goal
use Rattle.roots.proofs.whole_root.Goals.{then-r-h, else-r-h}

-- in a turn, r has at most 31 digits
short : (h i r : ℕ) → i < 32 → r ≡ whole_root i (part h i) → r < 2 ^ 31
short h i r l e = subst (λ (x : ℕ). x < 2 ^ 31) (sym e) (lt_of_lt_of_le (whole_lt i (part h i)) (pow_mono {j = 31} (few i l)))
  where
    few : (i : ℕ) → i < 32 → i ≤ 31
    few i l = omega arith

in_turn : (c : goal.In-loop-i) → c.loop-i.r < 2 ^ 31
in_turn c = let l : c.loop-i.i < 32 = omega arith in short c.args.h c.loop-i.i c.loop-i.r l c.loop-i.invariant

square-fits : (r : ℕ) → r < 2 ^ 31 → Fits w64 ((r * 2 + 1) * (r * 2 + 1))
square-fits r h = record { fits = of (r * 2 + 1) (odd_in r h) }
  where
    odd_in : (r : ℕ) → r < 2 ^ 31 → r * 2 + 1 ≤ 2 ^ 32 - 1
    odd_in r h = omega arith

    of : (w : ℕ) → w ≤ 2 ^ 32 - 1 → w * w < 2 ^ 64
    of w h = omega (arith, mul-le-mul h h)

pub loop-i-init : goal.loop-i-init
unfolding whole_root
loop-i-init c = refl

pub overflow_mul-r : goal.overflow_mul-r
overflow_mul-r c = omega (arith, in_turn c)

pub overflow_add-r : goal.overflow_add-r
overflow_add-r c = omega (arith, in_turn c)

pub overflow_add-r-in-loop-i : goal.overflow_add-r-in-loop-i
overflow_add-r-in-loop-i c = omega (arith, in_turn c)

pub overflow_mul-r-in-loop-i : goal.overflow_mul-r-in-loop-i
overflow_mul-r-in-loop-i c = square-fits c.loop-i.r (in_turn c)

-- the part of the next turn
shifted : (h i : ℕ) → h / 2 ^ (62 - 2 * i) ≡ part h (i + 1)
shifted h i = let e : 62 - 2 * i ≡ 64 - 2 * (i + 1) = omega arith in ap (λ (k : ℕ). h / 2 ^ k) e

-- the next digit, by what the test says
digit : (h i r s : ℕ) (b : Bool) → i < 32 → r ≡ whole_root i (part h i) → leb ((r * 2 + 1) * (r * 2 + 1)) (h / 2 ^ (62 - 2 * i)) ≡ b → s ≡ cond b (r * 2 + 1) (r * 2)
    → s ≡ whole_root (i + 1) (part h (i + 1))
digit h i r s b l v t e =
    let u : leb ((r * 2 + 1) * (r * 2 + 1)) (part h (i + 1)) ≡ b = sym (ap (leb ((r * 2 + 1) * (r * 2 + 1))) (shifted h i)) ∙ t in
    e ∙ sym (next_digit h i r l v ∙ ap (λ (x : Bool). cond x (r * 2 + 1) (r * 2)) u)

pub loop-i-preserved : goal.loop-i-preserved
loop-i-preserved c = elim c.if-r-h.branch [
  | then-r-h w ↦ digit c.args.h c.loop-i.i c.loop-i.r c.if-r-h.r true c.loop-i-test.true c.loop-i.invariant (le-leb _ _ w.if-r-h.true) w.r-is
  | else-r-h w ↦ digit c.args.h c.loop-i.i c.loop-i.r c.if-r-h.r false c.loop-i-test.true c.loop-i.invariant (lt-leb _ _ w.if-r-h.false) w.r-is
]
