-- `roots::nearest_root` meets its contract, by the laws of the division (`Remainder`). Assumes nothing.
use Prim.Native.Nat.{ℕ, ◌*◌, ◌^◌, ◌≤◌, ◌<◌}
use native.Mathlib.Omega.{arith}
use Rattle.roots.proofs.Remainder.{lower_lt, quotient_le, square_le, quotient, stays_is, rises_is}
use Rattle.roots.proofs.nearest_root.Goals as goal

-- the operand and the lower root, and the laws at them
abbrev h : goal.After-lower_root-s → ℕ
h c = c.args.h

abbrev s : goal.After-lower_root-s → ℕ
s c = c.lower_root-s.result

lt : (c : goal.After-lower_root-s) → s c < 2 ^ 32
lt c = lower_lt (h c) (s c) c.requires.h_bound c.ranges.h.fits c.lower_root-s.ensures

quotient_in : (c : goal.After-lower_root-s) → quotient (h c) (s c) ≤ 2 ^ 25
quotient_in c = quotient_le (h c) (s c) c.requires.h_bound c.ranges.h.fits c.lower_root-s.ensures

square_in : (c : goal.After-lower_root-s) → quotient (h c) (s c) * quotient (h c) (s c) ≤ 2 ^ 50
square_in c = square_le (h c) (s c) c.requires.h_bound c.ranges.h.fits c.lower_root-s.ensures

pub overflow_mul-q-2 : goal.overflow_mul-q-2
overflow_mul-q-2 c = omega (arith, square_in c)

pub overflow_add-q : goal.overflow_add-q
overflow_add-q c = omega (arith, lt c, quotient_in c, square_in c)

pub returns-then-rest-q : goal.returns-then-rest-q
returns-then-rest-q c = rises_is (h c.before) (s c.before) c.requires.h_bound c.ranges.h.fits c.lower_root-s.ensures c.if-rest-q.true

pub returns-else-rest-q : goal.returns-else-rest-q
returns-else-rest-q c = stays_is (h c.before) (s c.before) c.requires.h_bound c.ranges.h.fits c.lower_root-s.ensures c.if-rest-q.false
