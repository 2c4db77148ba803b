use Rattle.object_checks.specs.Checks.{counted_fine, object_fine}
use Rattle.object_checks.proofs.counted_fine.Goals as goal
use Rattle.std.proofs.Common.{ℕ, rules, ◌+◌, ◌*◌}

pub returns : goal.returns
unfolding counted_fine
returns c = c.all_first.ensures (λ (j : ℕ). object_fine c.args.bytes.now (c.args.k + 3 * j)) (λ j h passed p. search rules)
