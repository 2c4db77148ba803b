-- The table of days: what depends on the day alone, for every day of the year. It is a list of bytes: 366 records of three doubles.
use Rattle.std.specs.Prelude.{◌≡◌, List, [], ◌∷◌, ◌++◌, ℕ, zero, suc, ◌+◌, ◌*◌, ◌<◌, drop, Float}
use Rattle.doubles.specs.Arithmetic.{decimal, whole}
use Rattle.doubles.specs.Order.{InRange, Bounded}
use Rattle.words.specs.Words.{bytes_of_doubles, double_at, put_double}
use Rattle.days.specs.declared.Day.{Day}
use Rattle.days.specs.Day.{day_of}

-- a day's values in the order of its record
unfoldable pub day_doubles : Day → List Float
day_doubles day = day.declination ∷ day.equation_of_time ∷ day.extra_terrestrial_radiation ∷ []

-- the records of so many days, from day number n on
unfoldable pub day_records : ℕ → ℕ → List ℕ
day_records zero n = []
day_records (suc count) n = bytes_of_doubles (day_doubles (day_of n)) ++ day_records count (n + 1)

-- day 1 first, all 366 in either year: 8784 bytes
unfoldable pub day_table : List ℕ
day_table = day_records 366 1

-- a list that is lent, with the table over its front; the bytes behind stay as they were
unfoldable pub with_day_table : List ℕ → List ℕ
with_day_table days = day_table ++ drop 8784 days

-- the day whose record is the i-th, from 0
unfoldable pub day_at : List ℕ → ℕ → Day
day_at days i = record {
  declination = double_at days (3 * i);
  equation_of_time = double_at days (3 * i + 1);
  extra_terrestrial_radiation = double_at days (3 * i + 2);
}

-- a day stored as the i-th record
unfoldable pub put_day : List ℕ → ℕ → Day → List ℕ
put_day days i day =
    let declination = put_double days (3 * i) day.declination in
    let equation = put_double declination (3 * i + 1) day.equation_of_time in
    put_double equation (3 * i + 2) day.extra_terrestrial_radiation

-- where a day's values lie: none is NaN
pub record DayInRange (day : Day) : Type 0 where
  pub declination : Bounded (whole 28) day.declination
  pub equation : Bounded (decimal 163 1) day.equation_of_time
  pub radiation : InRange (whole 1300) (whole 1420) day.extra_terrestrial_radiation

-- a list in which each of the 366 days can be read
pub record HoldsDays (days : List ℕ) : Type 0 where
  pub day : (i : ℕ) → i < 366 → day_at days i ≡ day_of (i + 1)
