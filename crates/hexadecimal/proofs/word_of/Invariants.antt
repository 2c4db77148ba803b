-- To go on from here gives what reading from the start gives; and n digits count below 16 ^ n.
use Rattle.std.proofs.Common.{◌≡◌, ◌<◌, ◌^◌, drop}
use Rattle.hexadecimal.specs.Hexadecimal.{read_digits}
use Rattle.hexadecimal.proofs.word_of.Given as goal

abbrev pub invariant-loop-b : goal.invariant-loop-b
invariant-loop-b l = (read_digits 0 l.digits ≡ read_digits l.word (drop l.b-index l.digits)) × (l.word < 16 ^ l.b-index)
