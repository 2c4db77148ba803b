-- The largest total of a day or a month: what is claimed of it. `largest_total` (proofs/LargestLaws.antt) proves it. Runs come to no total
-- that is NaN and to none that is known to be −0.0, so that ties and NaN are told here and not by an example.
use Rattle.std.specs.Prelude.{◌≡◌, Bool, true, List, ℕ, ◌<◌, T, Float}
use Rattle.std.specs.Float.{nan}
use Rattle.std.specs.Float.Ieee.{is_nan}
use Rattle.doubles.specs.Order.{◌≼◌, ◌≺◌, Number}
use Rattle.simulation_time.specs.declared.run.Run.{Run}
use Rattle.jobs.specs.Rows.{stored_row}
use Rattle.jobs.specs.Totals.{day_of_step, totals_of}

-- Of those of the first n values that are chosen: all are NaN, or there are none, and so is the largest; or it is the j-th, which is a
-- number, none is above it, and every later one is below it: of equals the latest, 0.0 and −0.0 among them.
pub data Largest (chosen : ℕ → Bool) (x : ℕ → Float) (n : ℕ) : Float → Type 0 where
  none : ((i : ℕ) → i < n → T (chosen i) → is_nan (x i) ≡ true) → Largest chosen x n nan
  latest : (j : ℕ) → j < n → T (chosen j) → Number (x j) → ((i : ℕ) → i < n → T (chosen i) → Number (x i) → x i ≼ x j)
      → ((i : ℕ) → j < i → i < n → T (chosen i) → Number (x i) → x i ≺ x j) → Largest chosen x n (x j)

-- the totals are the fifth doubles of the rows
abbrev pub LargestTotal : Type 0
LargestTotal = (part : ℕ → Bool) (run : Run) (results : List ℕ) (n : ℕ)
    → Largest (λ (i : ℕ). part (day_of_step run i)) (λ (i : ℕ). (stored_row results i).total) n (totals_of part run results n).largest
