-- The totals as a run keeps them: emptied, then each row added to those of its day and its month. `row_added` (proofs/Kept.antt) says
-- that this comes to the totals of the stored rows.
use Rattle.std.specs.Prelude.{Bool, List, ◌++◌, ℕ, ◌+◌, ◌*◌, ◌≤◌, ◌<◌, length, drop, Float}
use Rattle.jobs.specs.declared.answers.Row.{Row}
use Rattle.totals.specs.declared.Parts.{Parts}
use Rattle.totals.specs.declared.KeptTotals.{KeptTotals}
use Rattle.jobs.specs.Totals.{no_totals, with_step, totals_count, month_part, totals_at, put_totals, totals_records}

-- every record of the year without a step; the bytes behind stay as they were
unfoldable pub emptied : Bool → List ℕ → List ℕ
emptied leap totals = totals_records (λ (k : ℕ). no_totals) (totals_count leap) 0 ++ drop (24 * totals_count leap) totals

-- where a day and its month have their records
unfoldable pub parts_of : Bool → ℕ → Parts
parts_of leap day = record { day = day; month = month_part leap day }

-- both records, as they stand in a list
unfoldable pub kept_totals : Bool → ℕ → List ℕ → KeptTotals
kept_totals leap day totals = record { parts = parts_of leap day; day = totals_at totals day; month = totals_at totals (month_part leap day) }

-- one step more in both
unfoldable pub with_row_added : Float → Row → KeptTotals → KeptTotals
with_row_added step row kept = record { parts = kept.parts; day = with_step step kept.day row; month = with_step step kept.month row }

-- a list has both records
pub record HasRecords (totals : List ℕ) (parts : Parts) : Type 0 where
  pub day_of_year : parts.day < 378
  pub month_of_year : parts.month < 378
  pub day_there : 24 * parts.day + 24 ≤ length totals
  pub month_there : 24 * parts.month + 24 ≤ length totals

-- both stored
unfoldable pub put_kept : List ℕ → KeptTotals → List ℕ
put_kept totals kept = put_totals (put_totals totals kept.parts.day kept.day) kept.parts.month kept.month
