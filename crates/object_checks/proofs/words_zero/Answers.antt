use Rattle.object_checks.specs.Checks.{words_zero}
use Rattle.words.specs.Words.{word_at}
use Rattle.object_checks.proofs.words_zero.Goals as goal
use Rattle.std.proofs.Common.{ℕ, eqb, rules, ◌+◌}

pub returns : goal.returns
unfolding words_zero
returns c = c.all_first.ensures (λ (j : ℕ). eqb (word_at c.args.bytes.now (c.args.k + j)) 0) (λ j h passed p. search rules)
