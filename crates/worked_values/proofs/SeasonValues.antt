-- Leaf days at the edges: which days are summer, and what the list for a day is.
use mathlib.Core.Path.{◌≡◌, refl}
use mathlib.Core.Bool.{true, false}
use mathlib.Core.List.{[], ◌++◌}
use lib.ListN.{length, replicate}
use Rattle.seasons.specs.Seasons.{in_leaf, whole_records, season_records, sectors_for}

-- 20 April to 31 October of a common year: the first and the last day are summer
before_leaf : in_leaf 109 303 108 ≡ false
unfolding in_leaf
before_leaf = refl

first_day : in_leaf 109 303 109 ≡ true
unfolding in_leaf
first_day = refl

last_day : in_leaf 109 303 303 ≡ true
unfolding in_leaf
last_day = refl

after_leaf : in_leaf 109 303 304 ≡ false
unfolding in_leaf
after_leaf = refl

-- one day of summer
one_day : (in_leaf 0 0 0 ≡ true) × (in_leaf 0 0 1 ≡ false)
unfolding in_leaf
one_day = (refl, refl)

-- the last day of a leap year, a common year has no such day
leap_day : (in_leaf 365 365 365 ≡ true) × (in_leaf 365 365 364 ≡ false)
unfolding in_leaf
leap_day = (refl, refl)

-- turned, as south of the tropics: both ends of the year are summer
turned : (in_leaf 303 109 0 ≡ true) × (in_leaf 303 109 109 ≡ true) × (in_leaf 303 109 110 ≡ false) × (in_leaf 303 109 302 ≡ false) × (in_leaf 303 109 303 ≡ true)
unfolding in_leaf
turned = (refl, refl, refl, refl, refl)

-- the first right behind the last: always summer
always : (in_leaf 1 0 0 ≡ true) × (in_leaf 1 0 1 ≡ true) × (in_leaf 365 364 364 ≡ true) × (in_leaf 365 364 365 ≡ true)
unfolding in_leaf
always = (refl, refl, refl, refl)

-- a part of a record at the end is left out, of less than one record nothing is left
whole_records_of : (length (sectors_for (replicate 647 7) [] 0 9 5) ≡ 432) × (sectors_for (replicate 215 7) [] 0 9 5 ≡ [])
unfolding in_leaf whole_records season_records sectors_for
whole_records_of = (refl, refl)

-- the bytes are those of the day's list
of_summer : sectors_for (replicate 216 7 ++ replicate 3 8) (replicate 216 9) 0 9 5 ≡ replicate 216 7
unfolding in_leaf whole_records season_records sectors_for
of_summer = refl

of_winter : sectors_for (replicate 216 7) (replicate 216 9) 0 9 10 ≡ replicate 216 9
unfolding in_leaf whole_records season_records sectors_for
of_winter = refl
