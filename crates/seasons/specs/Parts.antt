-- What is claimed of the list for a day: it is a part of the summer list or of the winter list, never outside of it, and all of its records.
-- `parts_of_lists` (proofs/Parts.antt) proves it.
use Rattle.std.specs.Prelude.{◌≡◌, true, false, List, ℕ, ◌%◌, ◌≤◌, length, take}
use Rattle.objects.specs.Records.{sector_count}
use Rattle.seasons.specs.Seasons.{in_leaf, sectors_for}

-- the first bytes of a list, never more than it has: as many records as it has whole ones, and no part of another
pub record PartOf (l part : List ℕ) : Type 0 where
  pub within : length part ≤ length l
  pub same_bytes : part ≡ take (length part) l
  pub records_alone : length part % 216 ≡ 0
  pub all_records : sector_count part ≡ sector_count l

abbrev pub PartsOfLists : Type 0
PartsOfLists =
    (summer winter : List ℕ) (first last day : ℕ)
    → (in_leaf first last day ≡ true → PartOf summer (sectors_for summer winter first last day))
    × (in_leaf first last day ≡ false → PartOf winter (sectors_for summer winter first last day))
