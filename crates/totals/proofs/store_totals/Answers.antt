-- `store_totals` meets its contract.
use mathlib.Core.Path.{◌≡◌, refl, ap, ◌∙◌}
use mathlib.Core.List.{List}
use Prim.Native.Nat.{ℕ, ◌+◌, ◌*◌, ◌<◌}
use native.Mathlib.Omega.{arith}
use lib.ListN.{length}
use Rattle.words.specs.Words.{word_count}
use Rattle.words.proofs.Laws.{length-put_word, length_put_double}
use Rattle.jobs.specs.Totals.{put_totals}
use Rattle.totals.proofs.store_totals.Goals as goal
use Rattle.totals.proofs.store_totals.Goals.{Start}

-- a list as long as the one that came has the record's words
there : (s : Start) (l : List ℕ) → length l ≡ length s.args.totals.now → 3 * s.args.k + 2 < word_count l
unfolding word_count
there s l e = omega (arith, e, s.requires.k_in_bounds)

pub store_word_within-requires : goal.store_word_within-requires
store_word_within-requires c = let s = c.before.before in omega (arith, there s s.args.totals.now refl)

pub store_double_within-requires : goal.store_double_within-requires
store_double_within-requires c = let s = c.before.before.before.before.before.before in omega (arith, there s c.store_word_within.new.bytes (ap length c.store_word_within.ensures ∙ length-put_word _ _ _))

pub store_double_within-requires-2 : goal.store_double_within-requires-2
store_double_within-requires-2 c = let s = c.before.before.before.before.before.before.before.before.before.before in omega (arith, there s c.store_double_within.new.bytes (ap length c.store_double_within.ensures ∙ length_put_double _ _ _ ∙ ap length c.store_word_within.ensures ∙ length-put_word _ _ _))

pub returns : goal.returns
unfolding put_totals
returns c =
    rw (c.store_double_within-2.ensures, c.store_double_within.ensures, c.store_word_within.ensures)
