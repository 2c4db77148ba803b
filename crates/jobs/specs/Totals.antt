-- Day and month totals: what a run keeps beside its rows. They are those of the rows that are stored, worked out afresh.
use Rattle.std.specs.Prelude.{Bool, cond, ◌||◌, List, [], ◌++◌, ℕ, zero, suc, ◌+◌, ◌-◌, ◌*◌, ◌/◌, eqb, drop, Float}
use Rattle.std.specs.Float.{nan}
use Rattle.doubles.specs.Arithmetic.{whole}
use Rattle.doubles.specs.Functions.{float_max}
use Rattle.words.specs.Words.{bytes_of, bytes_of_double, word_at, double_at, put_word, put_double}
use Rattle.calendar.specs.Calendar.{days_in_year, date_of}
use Rattle.simulation_time.specs.declared.run.Run.{Run}
use Rattle.simulation_time.specs.Steps.{time_at}
use Rattle.simulation_time.specs.Timestep.{current_hour}
use Rattle.jobs.specs.declared.answers.Row.{Row}
use Rattle.jobs.specs.declared.answers.Totals.{Totals}
use Rattle.jobs.specs.Rows.{stored_row, with_row}

-- ---- of some steps

-- before the first of them
unfoldable pub no_totals : Totals
no_totals = record { count = 0; largest = nan; sum = whole 0 }

-- One step more, which is so many hours long. Of the largest total and the new one `float_max` drops a NaN, and takes the new one where
-- the largest is not above it: of equals the latest.
unfoldable pub with_step : Float → Totals → Row → Totals
with_step step totals row = record {
  count = totals.count + 1;
  largest = float_max totals.largest row.total;
  sum = with_row step totals.sum row;
}

-- ---- of the steps of a part of the year

-- the day, from 0, in which a run's i-th step starts
abbrev pub day_of_step : Run → ℕ → ℕ
day_of_step run i = current_hour (time_at run i) / 24

-- those of the first n rows in a results list whose day is in the part, in step order
unfoldable pub totals_of : (ℕ → Bool) → Run → List ℕ → ℕ → Totals
totals_of part run results zero = no_totals
totals_of part run results (suc n) =
    let before = totals_of part run results n in
    cond (part (day_of_step run n)) (with_step run.step before (stored_row results n)) before

-- ---- of a year: of each day, and right behind the days of each month

unfoldable pub totals_count : Bool → ℕ
totals_count leap = days_in_year leap + 12

-- the place of the month of a day
unfoldable pub month_part : Bool → ℕ → ℕ
month_part leap day = days_in_year leap + (date_of leap day).month - 1

-- whether a day is in the k-th part, from 0: it is that day, or one of that month
unfoldable pub in_part : Bool → ℕ → ℕ → Bool
in_part leap k day = eqb k day || eqb k (month_part leap day)

unfoldable pub totals_at_part : Bool → Run → List ℕ → ℕ → ℕ → Totals
totals_at_part leap run results n k = totals_of (in_part leap k) run results n

-- ---- as bytes

-- a record is three words: 24 bytes
unfoldable pub totals_bytes : Totals → List ℕ
totals_bytes totals = bytes_of 8 totals.count ++ (bytes_of_double totals.largest ++ bytes_of_double totals.sum)

-- the k-th record of a list
unfoldable pub totals_at : List ℕ → ℕ → Totals
totals_at totals k = record { count = word_at totals (3 * k); largest = double_at totals (3 * k + 1); sum = double_at totals (3 * k + 2) }

unfoldable pub put_totals : List ℕ → ℕ → Totals → List ℕ
put_totals totals k new =
    let count = put_word totals (3 * k) new.count in
    let largest = put_double count (3 * k + 1) new.largest in
    put_double largest (3 * k + 2) new.sum

-- so many records, from the k-th on
unfoldable pub totals_records : (ℕ → Totals) → ℕ → ℕ → List ℕ
totals_records totals zero k = []
totals_records totals (suc count) k = totals_bytes (totals k) ++ totals_records totals count (k + 1)

-- a list that is lent, with the totals of the first n rows over its front; the bytes behind stay as they were
unfoldable pub with_totals : Bool → Run → List ℕ → ℕ → List ℕ → List ℕ
with_totals leap run results n totals =
    totals_records (totals_at_part leap run results n) (totals_count leap) 0 ++ drop (24 * totals_count leap) totals
