use Rattle.std.proofs.Common.{◌≤◌, sym, subst, T}
use Rattle.object_checks.proofs.AcceptedSectors.{sector_count_lem}
use Rattle.object_checks.proofs.lists.Sectors.count.Goals as goal

pub returns-clause-few : goal.returns-clause-few
returns-clause-few c = subst (λ n. n ≤ 36) (sym c.sector_count.ensures) (sector_count_lem _ (subst T (sym c.args.self.fine) tt))
