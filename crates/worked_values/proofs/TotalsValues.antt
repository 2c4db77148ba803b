-- The calendar about the end of February and of the year, and the totals of rows that are given, computed by the checker from the
-- definitions. Doubles are compared by their bits, so that −0.0 is not 0.
use mathlib.Core.Path.{◌≡◌, refl}
use mathlib.Core.Bool.{Bool, true, false, ◌&&◌}
use mathlib.Core.List.{List}
use Prim.Native.Nat.{ℕ}
use lib.Dec.{eqb}
use lib.ListN.{replicate}
use lib.Ieee.{Float, nan, binary64, add, mul, neg, lt, is_nan, to_unsigned, of_int, of_bits, to_bits}
use Rattle.doubles.specs.Arithmetic.{whole, decimal}
use Rattle.doubles.specs.Functions.{floor_of, max_of2, float_max}
use Rattle.words.specs.Words.{number, bytes_of, word_count, word_at, double_at, put_word, put_double}
use Rattle.calendar.specs.Calendar.{days_in_year, month_lengths, date_from, date_at, place_of, date_of}
use Rattle.simulation_time.specs.declared.run.Run.{Run}
use Rattle.simulation_time.specs.Steps.{time_at}
use Rattle.simulation_time.specs.Timestep.{current_hour}
use Rattle.jobs.specs.declared.answers.Row.{Row}
use Rattle.jobs.specs.declared.answers.Totals.{Totals}
use Rattle.jobs.specs.Rows.{put_row, stored_row, with_row}
use Rattle.jobs.specs.Totals.{no_totals, with_step, totals_of, month_part, in_part, totals_at_part}

-- ---- dates: days count from 0

unfoldable pub is_day : Bool → ℕ → ℕ → ℕ → Bool
is_day leap place month day = eqb (date_of leap place).month month && eqb (date_of leap place).day day

unfoldable pub dates_right : Bool
dates_right =
    is_day false 0 1 1
    && is_day false 58 2 28
    && is_day false 59 3 1
    && is_day false 364 12 31
    && is_day true 58 2 28
    && is_day true 59 2 29
    && is_day true 60 3 1
    && is_day true 365 12 31

pub dates_right_lem : dates_right ≡ true
unfolding dates_right is_day date_of place_of date_at date_from month_lengths
dates_right_lem = refl

-- ---- one step after the other

-- a row with this total, of which half of 100 gets past the shade
unfoldable pub row_of : Float → Row
row_of total = record {
  altitude = whole 0;
  azimuth = whole 0;
  direct = whole 100;
  diffuse = whole 0;
  total = total;
  factor = decimal 5 1;
}

-- steps of two hours
unfoldable pub after : Float → Totals → Totals
after total before = with_step (whole 2) before (row_of total)

unfoldable pub are_totals : ℕ → Float → Float → Totals → Bool
are_totals count largest sum totals =
    eqb totals.count count && eqb (to_bits binary64 totals.largest) (to_bits binary64 largest)
    && eqb (to_bits binary64 totals.sum) (to_bits binary64 sum)

unfoldable pub fold_right : Bool
fold_right =
    -- no step: the largest total is NaN
    are_totals 0 nan (whole 0) no_totals
    && are_totals 1 (neg (whole 3)) (whole 100) (after (neg (whole 3)) no_totals)
    -- the larger one, whichever comes first
    && are_totals 2 (whole 7) (whole 200) (after (whole 7) (after (whole 3) no_totals))
    && are_totals 2 (whole 7) (whole 200) (after (whole 3) (after (whole 7) no_totals))
    -- of 0.0 and −0.0 the latest
    && are_totals 2 (neg (whole 0)) (whole 200) (after (neg (whole 0)) (after (whole 0) no_totals))
    && are_totals 2 (whole 0) (whole 200) (after (whole 0) (after (neg (whole 0)) no_totals))
    -- a NaN is skipped, but its step counts
    && are_totals 2 (whole 3) (whole 200) (after nan (after (whole 3) no_totals))
    && are_totals 2 (whole 3) (whole 200) (after (whole 3) (after nan no_totals))
    && are_totals 1 nan (whole 100) (after nan no_totals)

pub fold_right_lem : fold_right ≡ true
unfolding fold_right are_totals after row_of no_totals with_step with_row float_max max_of2 add mul neg lt is_nan to_bits whole decimal of_int
fold_right_lem = refl

-- ---- days and months of a run

-- steps of two hours, two on 28 February and one on the next day
unfoldable pub over_midnight : Run
over_midnight = record { start = whole 1412; end = whole 1418; step = whole 2 }

unfoldable pub three_rows : List ℕ
three_rows = put_row (put_row (put_row (replicate 144 0) 0 (row_of (whole 7))) 1 (row_of (whole 9))) 2 (row_of (whole 8))

unfoldable pub part : Bool → ℕ → Totals
part leap k = totals_at_part leap over_midnight three_rows 3 k

-- the months stand behind 365 or 366 days
unfoldable pub parts_right : Bool
parts_right =
    are_totals 0 nan (whole 0) (part false 57)
    && are_totals 2 (whole 9) (whole 200) (part false 58)
    && are_totals 1 (whole 8) (whole 100) (part false 59)
    && are_totals 0 nan (whole 0) (part false 365)
    && are_totals 2 (whole 9) (whole 200) (part false 366)
    && are_totals 1 (whole 8) (whole 100) (part false 367)
    && are_totals 2 (whole 9) (whole 200) (part true 58)
    && are_totals 1 (whole 8) (whole 100) (part true 59)
    && are_totals 0 nan (whole 0) (part true 366)
    && are_totals 3 (whole 9) (whole 300) (part true 367)
    && are_totals 0 nan (whole 0) (part true 368)

pub parts_right_lem : parts_right ≡ true
unfolding parts_right part over_midnight three_rows are_totals row_of put_row stored_row put_double put_word double_at word_at word_count number bytes_of of_bits to_bits
    totals_at_part totals_of in_part month_part days_in_year date_of place_of date_at date_from month_lengths time_at current_hour to_unsigned floor_of
    no_totals with_step with_row float_max max_of2 add mul neg lt is_nan whole decimal of_int
parts_right_lem = refl
