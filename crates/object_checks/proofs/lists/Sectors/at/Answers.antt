use mathlib.Core.Path.{sym, subst}
use lib.Dec.{T}
use Rattle.object_checks.proofs.ReadableSectors.{readable}
use Rattle.object_checks.proofs.lists.Sectors.at.Goals as goal

pub segment_at-requires-clause-readable : goal.segment_at-requires-clause-readable
segment_at-requires-clause-readable c = readable _ (subst T (sym c.args.self.fine) tt)
