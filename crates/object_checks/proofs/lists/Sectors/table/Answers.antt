use mathlib.Core.Path.{sym, subst}
use lib.Dec.{T}
use Rattle.object_checks.proofs.ReadableSectors.{readable}
use Rattle.object_checks.proofs.lists.Sectors.table.Goals as goal

pub sectors_of-requires-clause-readable : goal.sectors_of-requires-clause-readable
sectors_of-requires-clause-readable c = readable _ (subst T (sym c.args.self.fine) tt)
