use mathlib.Core.Path.{refl}
use Rattle.hexadecimal.specs.Hexadecimal.{put_digits, digits_of, digits}
use Rattle.text.specs.Text.{ascii}
use Rattle.lines.specs.Line.{output_line}
use Rattle.lines.proofs.output.factor_line.Goals as goal

pub returns : goal.returns
unfolding output_line ascii put_digits digits_of digits
returns c = rw (c.store_digits.ensures, c.f64_to_bits_with_nan.ensures) refl
