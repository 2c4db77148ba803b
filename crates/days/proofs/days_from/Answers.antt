use mathlib.Core.Path.{◌≡◌, ap}
use mathlib.Core.Bool.{true}
use Prim.Native.Nat.{ℕ, suc, ◌-◌, ◌<◌}
use native.Mathlib.Omega.{arith}
use borrow.Author.Tests.{le-leb, lt-leb}
use lib.IntN.{pos}
use lib.Ieee.{binary64, neg, round, of_int}
use Rattle.doubles.proofs.Rounding.{round-neg}
use Rattle.days.specs.Day.{days_from}
use Rattle.days.proofs.days_from.Goals as goal

-- below k the difference is −(k − n), and its double the other's negative
below : (k n : ℕ) → n < k → neg (of_int binary64 (pos (k - n))) ≡ days_from k n
unfolding days_from of_int
below k n l = rw (lt-leb k n l, ← (round-neg (k - n) 1)) (ap (λ (x : ℕ). round binary64 true x 1) (back k n l))
  where
    back : (k n : ℕ) → n < k → k - n ≡ suc (k - suc n)
    back k n l = omega arith

pub returns-then-k-n : goal.returns-then-k-n
unfolding days_from
returns-then-k-n c = let a = c.args in rw (le-leb a.k a.n (omega arith))

pub returns-else-k-n : goal.returns-else-k-n
unfolding days_from of_int
returns-else-k-n c = let a = c.args in below a.k a.n (omega arith)
