-- Two jobs compared: the specification's terms one by one, and the claim about two whole runs, from the first step to the last, and
-- their sums, in all and of each day and month. It speaks of what the runs leave: doubles in the results lists, totals, and the answers.
use Rattle.std.specs.Prelude.{◌≡◌, List, [], ◌∷◌, ℕ, zero, suc, ◌+◌, ◌*◌, ◌<◌, take, Float}
use Rattle.doubles.specs.Arithmetic.{◌⊕◌, ◌⊗◌, whole}
use Rattle.doubles.specs.Order.{◌≼◌, ◌≈◌, Finite}
use Rattle.words.specs.Lists.{PlaceByPlace}
use Rattle.words.specs.Words.{word_count, word_at, double_at}
use Rattle.sun.specs.Site.{leap_year_of}
use Rattle.simulation_time.specs.Steps.{step_count, time_at}
use Rattle.objects.specs.Records.{records_from, sector_count, sectors_of, window_count, window_objects_of}
use Rattle.shading_laws.specs.Premises.{Doubles, Holds, NoNanAt}
use Rattle.shading_laws.specs.Sizes.{nothing, WindowShadesNoLess, SectorShadesNoLess}
use Rattle.jobs.specs.Job.{Job}
use Rattle.jobs.specs.Step.{sun_at, job_sectors}
use Rattle.jobs.specs.Totals.{totals_count, totals_at}
use Rattle.jobs.specs.Run.{Ran, Lent, Left, run_of, number_for, count_for, sum_for}

-- ---- what a run leaves

-- the factor compared is a step's sixth double, the unshaded direct value its third
unfoldable pub factor_at : Ran → ℕ → Float
factor_at left i = double_at left.results (6 * i + 5)

unfoldable pub direct_at : Ran → ℕ → Float
direct_at left i = double_at left.results (6 * i + 2)

-- the step count and the sum are those of the answer
unfoldable pub count_of : Ran → ℕ
count_of left = count_for left.answer

unfoldable pub sum_of : Ran → Float
sum_of left = sum_for left.answer

-- the unshaded sum: of direct times step in hours over the first n steps, from 0, in step order
unfoldable pub unshaded_sum : Float → Ran → ℕ → Float
unshaded_sum step left zero = whole 0
unshaded_sum step left (suc n) = unshaded_sum step left n ⊕ direct_at left n ⊗ step

-- ---- the terms

-- a job is accepted where the table of refusals gives no number
abbrev pub IsAccepted : Ran → Type 0
IsAccepted left = number_for left.answer ≡ 0

-- the same series: equally many whole words, and the same double at each place
pub record SameSeries (l m : List ℕ) : Type 0 where
  pub lengths : word_count l ≡ word_count m
  pub values : (i : ℕ) → double_at l i ≡ double_at m i

-- alike in all but their shading objects: edition, site (its leaf days too), run, surface and series are the same
pub record Alike (j k : Job) : Type 0 where
  pub editions : j.edition ≡ k.edition
  pub sites : j.site ≡ k.site
  pub runs : j.run ≡ k.run
  pub surfaces : j.surface ≡ k.surface
  pub diffuses : SameSeries j.diffuse k.diffuse
  pub directs : SameSeries j.direct k.direct
  pub reflectivities : SameSeries j.reflectivity k.reflectivity

-- sectors bounded alike: the lists are equally long, and sectors at the same place start and end alike, as numbers: 0.0 and −0.0 do
pub record BoundedAlike (l m : List ℕ) : Type 0 where
  pub lengths : sector_count l ≡ sector_count m
  pub starts : (i : ℕ) → i < sector_count l → double_at l (27 * i) ≈ double_at m (27 * i)
  pub ends : (i : ℕ) → i < sector_count l → double_at l (27 * i + 1) ≈ double_at m (27 * i + 1)

-- in each season, whether or not a step falls there
pub record SeasonsBoundedAlike (j k : Job) : Type 0 where
  pub in_summer : BoundedAlike j.summer k.summer
  pub in_winter : BoundedAlike j.winter k.winter

-- An object is a counted triple of a sector, or a window object. Two are the same where all their words are: so it is its words.
unfoldable pub triple : List ℕ → ℕ → List ℕ
triple l k = word_at l k ∷ word_at l (k + 1) ∷ word_at l (k + 2) ∷ []

unfoldable pub sector_objects : List ℕ → ℕ → List (List ℕ)
sector_objects l i = records_from (λ (n : ℕ). triple l (27 * i + 3 + 3 * n)) 0 (word_at l (27 * i + 2))

unfoldable pub window_object : List ℕ → ℕ → List ℕ
window_object l i = word_at l (4 * i) ∷ word_at l (4 * i + 1) ∷ word_at l (4 * i + 2) ∷ word_at l (4 * i + 3) ∷ []

unfoldable pub window_objects : List ℕ → List (List ℕ)
window_objects l = records_from (window_object l) 0 (window_count l)

-- sector by sector, m holds all objects of l: each of those is somewhere in its list
abbrev pub HoldsSectors : List ℕ → List ℕ → Type 0
HoldsSectors m l = (i : ℕ) → i < sector_count l → Holds (sector_objects m i) (sector_objects l i)

-- k holds all objects of j, summer with summer and winter with winter, whether or not a step falls there, and window with window
pub record HoldsAll (k j : Job) : Type 0 where
  pub in_summer : HoldsSectors k.summer j.summer
  pub in_winter : HoldsSectors k.winter j.winter
  pub at_window : Holds (window_objects k.window) (window_objects j.window)

-- the same objects: each holds all of the other's
pub record SameObjects (j k : Job) : Type 0 where
  pub there : HoldsAll k j
  pub back : HoldsAll j k

-- Each object of k shades no less than that of j at its place, summer with summer and winter with winter, whether or not a step falls
-- there, and window with window: it is the same, or changed in one measure.
pub record ShadesNoLessAll (k j : Job) : Type 0 where
  pub in_summer : PlaceByPlace (SectorShadesNoLess nothing) (sectors_of j.summer) (sectors_of k.summer)
  pub in_winter : PlaceByPlace (SectorShadesNoLess nothing) (sectors_of j.winter) (sectors_of k.winter)
  pub at_window : PlaceByPlace (WindowShadesNoLess nothing) (window_objects_of j.window) (window_objects_of k.window)

abbrev pub NoneInSectors : List ℕ → Type 0
NoneInSectors l = (i : ℕ) → i < sector_count l → sector_objects l i ≡ []

-- none in either season, nor at the window
pub record NoObjects (job : Job) : Type 0 where
  pub in_summer : NoneInSectors job.summer
  pub in_winter : NoneInSectors job.winter
  pub at_window : window_objects job.window ≡ []

-- No shade extent is NaN, at any step: the height or width computed for each object at the window and in the sector that is found among
-- those of the day, where the sun is inside the beam.
pub record NoNan (job : Job) : Type 0 where
  pub at_step : (i : ℕ) → i < step_count job.run
      → let sun = sun_at job.site (time_at job.run i) in
      let sectors = job_sectors job (time_at job.run i) in
      NoNanAt job.edition job.surface sun.altitude sun.azimuth (sectors_of sectors) (window_objects_of job.window)

-- ---- the claim

-- Of each run: it has the iterator's steps; every factor lies from 0 to 1, and the sum from 0 to the unshaded sum; with no objects every
-- factor is 1 and the sum is the unshaded one, bit for bit. (The specification asks for the laws of sums where every direct value is
-- finite: they all are.)
pub record Lawful (job : Job) (left : Ran) : Type 0 where
  pub count : count_of left ≡ step_count job.run
  pub factor_from : (i : ℕ) → i < count_of left → whole 0 ≼ factor_at left i
  pub factor_to : (i : ℕ) → i < count_of left → factor_at left i ≼ whole 1
  pub factor_one : NoObjects job → (i : ℕ) → i < count_of left → factor_at left i ≡ whole 1
  pub direct_finite : (i : ℕ) → i < count_of left → Finite (direct_at left i)
  pub sum_from : whole 0 ≼ sum_of left
  pub sum_up_to : sum_of left ≼ unshaded_sum job.run.step left (count_of left)
  pub sum_unshaded : NoObjects job → sum_of left ≡ unshaded_sum job.run.step left (count_of left)

-- one run nowhere larger than another: no factor is, nor the sum
pub record NoLarger (a b : Ran) : Type 0 where
  pub factors : (i : ℕ) → i < count_of a → factor_at a i ≼ factor_at b i
  pub sums : sum_of a ≼ sum_of b

-- Of both: as many steps and the same direct values; the same objects, in any order and number, give the same factors and the same
-- sum, bit for bit; more objects never give a larger factor or sum, whichever of the two has them, nor do objects that shade no less.
pub record RunsCompared (j k : Job) (a b : Ran) : Type 0 where
  pub first : Lawful j a
  pub second : Lawful k b
  pub counts : count_of a ≡ count_of b
  pub directs : (i : ℕ) → i < count_of a → direct_at a i ≡ direct_at b i
  pub same_factors : SameObjects j k → (i : ℕ) → i < count_of a → factor_at a i ≡ factor_at b i
  pub same_sums : SameObjects j k → sum_of a ≡ sum_of b
  pub second_more : HoldsAll k j → NoLarger b a
  pub first_more : HoldsAll j k → NoLarger a b
  pub second_sizes : ShadesNoLessAll k j → NoLarger b a
  pub first_sizes : ShadesNoLessAll j k → NoLarger a b

-- Of both lists of totals, day by day and then month by month: as many steps and the same largest total; the same objects give the same
-- bytes; neither more objects nor objects that shade no less ever give a larger sum of a day or of a month.
pub record TotalsCompared (j k : Job) (a b : List ℕ) : Type 0 where
  pub counts : (p : ℕ) → p < totals_count (leap_year_of j.site) → (totals_at a p).count ≡ (totals_at b p).count
  pub largest : (p : ℕ) → p < totals_count (leap_year_of j.site) → (totals_at a p).largest ≡ (totals_at b p).largest
  pub same_bytes : SameObjects j k → take (24 * totals_count (leap_year_of j.site)) a ≡ take (24 * totals_count (leap_year_of j.site)) b
  pub second_more : HoldsAll k j → (p : ℕ) → p < totals_count (leap_year_of j.site) → (totals_at b p).sum ≼ (totals_at a p).sum
  pub first_more : HoldsAll j k → (p : ℕ) → p < totals_count (leap_year_of j.site) → (totals_at a p).sum ≼ (totals_at b p).sum
  pub second_sizes : ShadesNoLessAll k j → (p : ℕ) → p < totals_count (leap_year_of j.site) → (totals_at b p).sum ≼ (totals_at a p).sum
  pub first_sizes : ShadesNoLessAll j k → (p : ℕ) → p < totals_count (leap_year_of j.site) → (totals_at a p).sum ≼ (totals_at b p).sum

-- of two calls: what their runs come to, and the totals that they leave
pub record Compared (j k : Job) (a b : Left) : Type 0 where
  pub runs : RunsCompared j k a.ran b.ran
  pub totals : TotalsCompared j k a.totals b.totals

-- two jobs that may be compared, whatever lists were lent
pub record Comparable (j k : Job) (r s : Lent) : Type 0 where
  pub alike : Alike j k
  pub bounded : SeasonsBoundedAlike j k
  pub first_accepted : IsAccepted (run_of j r).ran
  pub second_accepted : IsAccepted (run_of k s).ran
  pub first_extents : NoNan j
  pub second_extents : NoNan k
  -- ensured by `pilgartze_run`
  pub doubles : Doubles j.surface

abbrev pub TwoJobsCompared : Type 0
TwoJobsCompared = (j k : Job) (r s : Lent) → Comparable j k r s → Compared j k (run_of j r) (run_of k s)
