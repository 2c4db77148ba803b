-- The calendar is right: at every day of either year, by one test of the rule that is computed over all of them.
use mathlib.Core.Path.{◌≡◌, subst, sym}
use mathlib.Core.Logic.{⊎_elim}
use mathlib.Core.Bool.{Bool, true, false, cond, ◌&&◌}
use Prim.Native.Nat.{ℕ, zero, suc, ◌+◌, ◌-◌, ◌≤◌, ◌<◌}
use native.Mathlib.Nat.{not-suc-le-zero, le_of_suc-le-suc, eq-or-lt_of_le}
use native.Mathlib.Omega.{arith}
use lib.Dec.{T, eqb, leb, ltb, eqb→eq, leb→le, ltb→lt}
use lib.Ieee.Fits.{and_l, and_r}
use Rattle.calendar.specs.declared.Date.{Date}
use Rattle.calendar.specs.Calendar.{days_in_year, month_length, days_before, date_at, place_of, date_of, IsDate, CalendarRight}

-- the test passes at each number below n
abbrev all_below : (ℕ → Bool) → ℕ → Bool
all_below test zero = true
all_below test (suc n) = test n && all_below test n

at : (test : ℕ → Bool) (n : ℕ) → T (all_below test n) → (k : ℕ) → k < n → T (test k)
at test zero t k h = absurd (not-suc-le-zero h)
at test (suc n) t k h =
    ⊎_elim
    (λ (e : k ≡ n). subst (λ (m : ℕ). T (test m)) (sym e) (and_l (test n) (all_below test n) t))
    (λ (l : k < n). at test n (and_r (test n) (all_below test n) t) k l)
    (eq-or-lt_of_le (le_of_suc-le-suc h))

is_date : Bool → ℕ → Date → Bool
unfolding month_length days_before
is_date leap day date =
    leb 1 date.month
    && (leb date.month 12
    && (leb 1 date.day
    && (leb date.day (month_length leap date.month) && eqb (days_before leap date.month + date.day - 1) day)))

is_date_lem : (leap : Bool) (day : ℕ) (date : Date) → T (is_date leap day date) → IsDate leap day date
unfolding is_date
is_date_lem leap day date t =
    let a = leb 1 date.month in
    let b = leb date.month 12 in
    let c = leb 1 date.day in
    let d = leb date.day (month_length leap date.month) in
    let e = eqb (days_before leap date.month + date.day - 1) day in
    let t2 = and_r a (b && (c && (d && e))) t in
    let t3 = and_r b (c && (d && e)) t2 in
    let t4 = and_r c (d && e) t3 in
    record {
      month_from = leb→le _ _ (and_l a (b && (c && (d && e))) t);
      month_to = leb→le _ _ (and_l b (c && (d && e)) t2);
      day_from = leb→le _ _ (and_l c (d && e) t3);
      day_to = leb→le _ _ (and_l d e t4);
      place = eqb→eq _ _ (and_r d e t4);
    }

right : Bool → ℕ → Bool
unfolding is_date date_of place_of date_at
right leap day = is_date leap day (date_of leap day)

pub year_short : (leap : Bool) (day : ℕ) → day < days_in_year leap → day < 366
unfolding days_in_year
year_short true day h = h
year_short false day h = omega (arith, h)

pub place_short : (leap : Bool) (day : ℕ) → day < days_in_year leap → place_of leap day < 366
unfolding days_in_year place_of
place_short true day h = h
place_short false day h = go (ltb day 59)
  where
    go : (b : Bool) → cond b day (day + 1) < 366
    go true = omega (arith, h)
    go false = omega (arith, h)

short : ℕ → Bool
unfolding date_at
short place = ltb (date_at place).day 100

-- so that month and day can be read off a number
pub day_short : (place : ℕ) → place < 366 → (date_at place).day < 100
unfolding short
day_short place h = ltb→lt (date_at place).day 100 (at short 366 tt place h)

pub calendar_right : CalendarRight
unfolding right days_in_year
calendar_right true day h = is_date_lem true day (date_of true day) (at (right true) 366 tt day h)
calendar_right false day h = is_date_lem false day (date_of false day) (at (right false) 365 tt day h)

pub year_few : (leap : Bool) → days_in_year leap ≤ 366
unfolding days_in_year
year_few true = omega arith
year_few false = omega arith
