use mathlib.Core.Path.{refl}
use lib.Ieee.{of_bits, of_int}
use Rattle.doubles.specs.Arithmetic.{whole}
use Rattle.objects.specs.Records.{no_window_object}
use Rattle.objects.proofs.records.no_window_objects.Goals as goal

pub returns : goal.returns
unfolding no_window_object whole of_bits of_int
returns c = refl
