-- Trees in leaf: which days are, and the list of sectors for a day. Days count from 0.
use Rattle.std.specs.Prelude.{Bool, cond, ◌&&◌, ◌||◌, List, ℕ, ◌*◌, ◌/◌, leb, length, take}

-- Summer: where the first leaf day is not above the last, the days from the first to the last; otherwise those from the first on and
-- those up to the last.
unfoldable pub in_leaf : ℕ → ℕ → ℕ → Bool
in_leaf first last day = cond (leb first last) (leb first day && leb day last) (leb first day || leb day last)

-- all whole records of a list of sectors, of 216 bytes each
unfoldable pub whole_records : List ℕ → List ℕ
whole_records l = take (length l / 216 * 216) l

-- those of the summer list, or else of the winter list
unfoldable pub season_records : Bool → List ℕ → List ℕ → List ℕ
unfolding whole_records
season_records is_summer summer winter = cond is_summer (whole_records summer) (whole_records winter)

-- the list for a day
unfoldable pub sectors_for : List ℕ → List ℕ → ℕ → ℕ → ℕ → List ℕ
unfolding in_leaf season_records
sectors_for summer winter first last day = season_records (in_leaf first last day) summer winter
