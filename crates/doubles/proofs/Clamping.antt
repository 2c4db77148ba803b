-- The clamp to −1..1: what lies there stays, what lies beyond is taken as the end, and so a number's clamp is from −1 to 1.
-- Assumes nothing.
use Rattle.std.proofs.Common.{◌≡◌, Bool, true, false, cond, refl}
use lib.Ieee.{Float, neg, lt, le}
use lib.Ieee.Bits.{is_true}
use Rattle.doubles.specs.Arithmetic.{whole}
use Rattle.doubles.specs.Functions.{clamp}
use Rattle.doubles.specs.Order.{◌≼◌, ◌≺◌, InRange, Bounded, Number}
use Rattle.doubles.proofs.Order.{le_refl, le_trans, left_number, right_number, lt→le, lt_excludes, le_of_not_lt, not_below}
use Rattle.doubles.proofs.Bounds.{one_number}

ends : neg (whole 1) ≼ whole 1
unfolding whole neg le
ends = record { holds = tt }

pub clamp_own : {x : Float} → neg (whole 1) ≼ x → x ≼ whole 1 → clamp x ≡ x
unfolding clamp
clamp_own h k = simp (not_below h, not_below k)

pub clamp_above : {x : Float} → whole 1 ≺ x → clamp x ≡ whole 1
unfolding clamp
clamp_above {x} h = simp (not_below (le_trans ends (lt→le h)), is_true (lt (whole 1) x) h.holds)

pub clamp_below : {x : Float} → x ≺ neg (whole 1) → clamp x ≡ neg (whole 1)
unfolding clamp
clamp_below {x} h = simp (is_true (lt x (neg (whole 1))) h.holds)

pub clamp_range : {x : Float} → Number x → Bounded (whole 1) (clamp x)
unfolding clamp
clamp_range {x} n = go (lt x (neg (whole 1))) (lt (whole 1) x) refl refl
  where
    go : (b c : Bool) → lt x (neg (whole 1)) ≡ b → lt (whole 1) x ≡ c → Bounded (whole 1) (cond b (neg (whole 1)) (cond c (whole 1) x))
    go true c p q = record { from = le_refl (left_number ends); to = ends }
    go false true p q = record { from = ends; to = le_refl one_number }
    go false false p q = record { from = le_of_not_lt n (left_number ends) p; to = le_of_not_lt one_number n q }

-- from a bound of its own up to 1
pub clamp_in : {l x : Float} → neg (whole 1) ≼ l → l ≼ whole 1 → l ≼ x → InRange l (whole 1) (clamp x)
unfolding clamp
clamp_in {l} {x} low high h = go (lt x (neg (whole 1))) (lt (whole 1) x) refl refl
  where
    go : (b c : Bool) → lt x (neg (whole 1)) ≡ b → lt (whole 1) x ≡ c → InRange l (whole 1) (cond b (neg (whole 1)) (cond c (whole 1) x))
    go true c p q = absurd (lt_excludes (record { holds = rw p tt }) (le_trans low h))
    go false true p q = record { from = high; to = le_refl one_number }
    go false false p q = record { from = h; to = le_of_not_lt one_number (right_number h) q }
