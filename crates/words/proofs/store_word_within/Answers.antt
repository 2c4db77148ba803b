-- `words::store_word_within` meets its contract: the copied bytes are those of the definition.
use mathlib.Core.Path.{◌∙◌}
use native.Mathlib.Omega.{arith}
use Rattle.words.proofs.Chunks.{eight_bytes, stored_chunk}
use Rattle.words.proofs.store_word_within.Goals as goal

pub returns : goal.returns
returns c = stored_chunk _ _ _ _ _ c.requires (omega arith) (c.copy_from_slice.ensures.after ∙ c.to_le_bytes-word.ensures ∙ eight_bytes _)
