use mathlib.Core.Path.{refl}
use lib.Ieee.{of_bits, of_int}
use Rattle.doubles.specs.Arithmetic.{whole}
use Rattle.objects.specs.Records.{no_object, no_segment}
use Rattle.objects.proofs.records.no_segment.Goals as goal

pub returns : goal.returns
unfolding no_segment no_object whole of_bits of_int
returns c = refl
