-- `whole_of` meets its contract: the two tests are what the cast asks.
use Rattle.std.proofs.Common.{T, sym, ◌∙◌, subst, to_z-of_z, w64}
use lib.Ieee.{of_bits, neg}
use Rattle.doubles.specs.Arithmetic.{whole}
use Rattle.kept_answers.specs.Differs.{whole_of}
use Rattle.kept_answers.proofs.whole_runs.whole_of.Goals as goal

pub truncating_f64_to_i64-requires : goal.truncating_f64_to_i64-requires
unfolding of_bits neg
truncating_f64_to_i64-requires c = record { lower_bound = subst T (sym c.if-x.true) tt; upper_bound = subst T (sym c.if-x-2.true) tt }

pub returns-then-x-2 : goal.returns-then-x-2
unfolding whole_of whole of_bits neg
returns-then-x-2 c = rw (c.if-x.true, c.if-x-2.true) (to_z-of_z {w = w64} {z = c.truncating_f64_to_i64.result} (record { sfits = c.truncating_f64_to_i64.type_inv }) ∙ c.truncating_f64_to_i64.ensures)

pub returns-else-x-2 : goal.returns-else-x-2
unfolding whole_of whole of_bits neg
returns-else-x-2 c = rw (c.if-x.true, c.if-x-2.false)

pub returns-else-x : goal.returns-else-x
unfolding whole_of whole of_bits neg
returns-else-x c = rw c.if-x.false
