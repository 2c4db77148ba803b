-- `words::number_within` meets its contract: a double that is no NaN has no NaN's bits.
use lib.Ieee.{binary64}
use lib.Ieee.Bits.{nan_bits_is}
use Rattle.words.specs.Words.{double_at}
use Rattle.words.proofs.number_within.Goals as goal

pub float_from_bits-result : goal.float_from_bits-result
unfolding double_at
float_from_bits-result c = rw (nan_bits_is binary64 c.word_within.result, c.word_within.ensures) c.requires.1
