-- `table_row` meets its contract: the library finds the first limit that is above.
use Rattle.std.proofs.Common.{◌∙◌, rules}
use Rattle.std.proofs.lemmas.Iterator.{YieldsList-from_slice}
use Rattle.std.proofs.lemmas.Iterator.Search.{position_from_yields_List}
use borrow.Author.Tests.{tests}
use lib.Ieee.{of_bits, lt}
use Rattle.irradiance.specs.Table.{limits}
use Rattle.irradiance.proofs.TableRow.{row_found}
use Rattle.irradiance.proofs.table.table_row.Goals as goal

pub returns : goal.returns
unfolding limits of_bits
returns c =
    c.unwrap_or.ensures
    ∙ row_found c.args.clearness_parameter c.position.result
    (position_from_yields_List (lt c.args.clearness_parameter) _ _ _ c.position.ensures.ran (YieldsList-from_slice limits c.iter.ensures.rest) (λ x b q k. search (rules, tests)))
