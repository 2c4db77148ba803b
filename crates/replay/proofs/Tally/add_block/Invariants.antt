-- The measure is the number of bytes that are left of the block.
use Rattle.std.proofs.Common.{length}
use Rattle.replay.proofs.Tally.add_block.Given as goal

abbrev pub decreases-loop-rest : goal.decreases-loop-rest
decreases-loop-rest l = length l.rest
