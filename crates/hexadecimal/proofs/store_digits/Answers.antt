use mathlib.Core.Path.{◌∙◌}
use native.Mathlib.Omega.{arith}
use Prim.Native.Nat.{◌+◌}
use lib.ListN.{length}
use borrow.Author.Tests.{le-leb}
use Rattle.words.proofs.Stores.{stored_part}
use Rattle.hexadecimal.specs.Hexadecimal.{put_digits, digits_of}
use Rattle.hexadecimal.proofs.DigitSteps.{length_digits}
use Rattle.hexadecimal.proofs.store_digits.Goals as goal

pub returns-then-at-text : goal.returns-then-at-text
unfolding put_digits digits_of
returns-then-at-text c =
    rw (le-leb (c.args.at + 16) (length c.args.text.now) (omega arith))
    (stored_part c.args.text.now c.args.at _ _ (digits_of c.args.w) (rw length_digits (omega arith)) (rw length_digits (omega arith))
    (c.copy_from_slice.ensures.after ∙ c.digits_of.ensures))
