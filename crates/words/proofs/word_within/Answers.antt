-- `words::word_within` meets its contract: the array is the eight places that `number` goes through.
use mathlib.Core.Path.{sym, ◌∙◌, ap}
use mathlib.Core.List.{List, []}
use Prim.Native.Nat.{ℕ}
use lib.ListN.{get_or}
use Rattle.std.proofs.Common.{w64}
use Rattle.std.specs.Int.{from_le_bytes}
use Rattle.words.specs.Words.{word_count}
use Rattle.words.proofs.Chunks.{word_of_chunk}
use Rattle.words.proofs.Laws.{word_in}
use Rattle.words.proofs.word_within.Goals as goal

pub returns : goal.returns
unfolding word_count
returns c =
    c.from_le_bytes.ensures ∙ ap (λ (m : List (List ℕ)). from_le_bytes w64 (get_or m c.args.k [])) c.as_chunks.ensures.front
    ∙ word_of_chunk _ _ _ c.requires ∙ sym (word_in _ _ c.requires)
