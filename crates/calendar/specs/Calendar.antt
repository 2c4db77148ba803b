-- The calendar, from the months' lengths.
use Rattle.std.specs.Prelude.{◌≡◌, Bool, true, cond, List, [], ◌∷◌, ℕ, ◌+◌, ◌-◌, ◌*◌, ◌≤◌, ◌<◌, ltb, get_or, take}
use Rattle.calendar.specs.declared.Date.{Date}

-- ---- the year

unfoldable pub days_in_year : Bool → ℕ
days_in_year leap = cond leap 366 365

-- January first
unfoldable pub month_lengths : Bool → List ℕ
month_lengths leap = 31 ∷ cond leap 29 28 ∷ 31 ∷ 30 ∷ 31 ∷ 30 ∷ 31 ∷ 31 ∷ 30 ∷ 31 ∷ 30 ∷ 31 ∷ []

-- months count from 1
unfoldable pub month_length : Bool → ℕ → ℕ
unfolding month_lengths
month_length leap month = get_or (month_lengths leap) (month - 1) 0

unfoldable pub all_days : List ℕ → ℕ
all_days [] = 0
all_days (length ∷ lengths) = length + all_days lengths

-- how many days of the year are before a month
unfoldable pub days_before : Bool → ℕ → ℕ
unfolding month_lengths all_days
days_before leap month = all_days (take (month - 1) (month_lengths leap))

-- ---- the table: the dates of a leap year

-- the date of a day, from 0, where the first of the months has this number
unfoldable pub date_from : List ℕ → ℕ → ℕ → Date
date_from [] month day = record { month = month; day = 0 }
date_from (length ∷ lengths) month day =
    cond (ltb day length) (record { month = month; day = day + 1 }) (date_from lengths (month + 1) (day - length))

unfoldable pub date_at : ℕ → Date
unfolding date_from month_lengths
date_at place = date_from (month_lengths true) 1 place

-- a date as one number: 229 is 29 February
unfoldable pub entry_at : ℕ → ℕ
unfolding date_at
entry_at place = 100 * (date_at place).month + (date_at place).day

-- ---- a day of either year

-- where it stands in the table: a common year passes over 29 February, the day at 59
unfoldable pub place_of : Bool → ℕ → ℕ
place_of leap day = cond leap day (cond (ltb day 59) day (day + 1))

unfoldable pub date_of : Bool → ℕ → Date
date_of leap day = date_at (place_of leap day)

-- ---- the rule

-- The days before the month and its own up to this one, less 1, are the day's place in the year, and the month has such a day.
pub record IsDate (leap : Bool) (day : ℕ) (date : Date) : Type 0 where
  pub month_from : 1 ≤ date.month
  pub month_to : date.month ≤ 12
  pub day_from : 1 ≤ date.day
  pub day_to : date.day ≤ month_length leap date.month
  pub place : days_before leap date.month + date.day - 1 ≡ day

-- every day of either year has its date: `calendar_right` (proofs/Rule.antt)
abbrev pub CalendarRight : Type 0
CalendarRight = (leap : Bool) (day : ℕ) → day < days_in_year leap → IsDate leap day (date_of leap day)
