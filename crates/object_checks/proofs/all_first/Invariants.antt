-- The loop's invariant: `all` is whether the places so far pass.
use Rattle.std.proofs.Common.{◌≡◌, ℕ, Bool, ◌<◌}
use Rattle.words.specs.Lists.{first_fine}
use Rattle.object_checks.proofs.all_first.Given as goal

abbrev pub invariant-loop-i : goal.invariant-loop-i
invariant-loop-i g l =
    (fine : ℕ → Bool) → ((i : ℕ) → i < l.n → (passed : Bool) → goal.F-post g l.test i passed → passed ≡ fine i) → l.all ≡ first_fine fine l.i
