-- `same_text` meets its contract: the library's `==` of two lists of bytes is the definition's.
use Rattle.text.proofs.same_text.Goals as goal

pub returns : goal.returns
returns c = c.eq.ensures
