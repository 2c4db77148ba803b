-- The n lowest digits stand at the end of the sixteen places, and the rest is w without them.
use Rattle.std.proofs.Common.{◌≡◌, ◌-◌, ◌/◌, ◌^◌}
use lib.Seq.{sets}
use Rattle.hexadecimal.specs.Hexadecimal.{digits}
use Rattle.hexadecimal.proofs.digits_of.Given as goal

abbrev pub invariant-loop-n : goal.invariant-loop-n
invariant-loop-n l = (l.rest ≡ l.w / 16 ^ l.n) × (l.digits ≡ sets l.initial.digits (16 - l.n) (digits l.n l.w))
