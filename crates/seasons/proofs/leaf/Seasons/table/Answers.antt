-- `table` meets its contract.
use Rattle.std.proofs.Common.{sym, ap, ◌∙◌}
use Rattle.objects.specs.Records.{sector_places}
use Rattle.seasons.proofs.Parts.{season_read}
use Rattle.seasons.proofs.leaf.Seasons.table.Goals as goal

pub returns : goal.returns
returns c =
    season_read _ _ _ _ _ _ _ _ _ c.in_leaf.ensures c.sectors-sectors.ensures c.count.ensures.count
    (c.table.ensures ∙ ap (sector_places c.sectors-sectors.result.bytes.now) (sym c.count.ensures.count))
