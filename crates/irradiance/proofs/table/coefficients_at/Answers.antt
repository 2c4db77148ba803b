use lib.Ieee.{of_bits, neg}
use native.Mathlib.Omega.{arith}
use Rattle.irradiance.specs.Table.{coefficients, coefficients_at}
use Rattle.irradiance.proofs.TableRow.{table_row_is_row}
use Rattle.irradiance.proofs.table.coefficients_at.Goals as goal

pub offset_bounds-table_row : goal.offset_bounds-table_row
offset_bounds-table_row c = omega (arith, c.table_row.ensures, (table_row_is_row c.args.clearness_parameter).within)

pub bounds-table_row-table_row : goal.bounds-table_row-table_row
bounds-table_row-table_row c = omega (arith, c.table_row.ensures, (table_row_is_row c.args.clearness_parameter).within)

pub returns : goal.returns
unfolding coefficients_at coefficients of_bits neg
returns c = rw c.table_row.ensures
