-- The table of a season's sectors, which a run keeps from day to day.
use Rattle.std.specs.Prelude.{Bool, List, ℕ, take}
use Rattle.objects.specs.declared.sectors.ShadingSegment.{ShadingSegment}
use Rattle.objects.specs.Records.{sector_count, sector_places}
use Rattle.seasons.specs.declared.table.SeasonTable.{SeasonTable}
use Rattle.seasons.specs.Seasons.{season_records}

unfoldable pub season_table : Bool → List ℕ → List ℕ → SeasonTable
season_table is_summer summer winter =
    let part = season_records is_summer summer winter in
    record { summer = is_summer; count = sector_count part; places = sector_places part (sector_count part) }

-- the sectors that count of a table's places
unfoldable pub table_sectors : SeasonTable → List ShadingSegment
table_sectors table = take table.count table.places
