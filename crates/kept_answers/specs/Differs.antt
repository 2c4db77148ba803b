-- When a kept answer differs from what the definitions say. A record that is cut short differs too.
use Rattle.std.specs.Prelude.{ℕ, ◌^◌, Bool, true, cond, not, ◌&&◌, ◌||◌, List, length, take, replicate, ℤ, pos, ◌==◌, nat_lt, to_bits, Float, Err, Ok, Result}
use Rattle.objects.specs.declared.answers.Refusal.{Refusal}
use Rattle.jobs.specs.declared.answers.Accepted.{Accepted}
use Rattle.jobs.specs.declared.answers.RefusedAt.{RefusedAt}
use Rattle.std.specs.Float.{binary64}
use Rattle.std.specs.Float.Ieee.{to_signed, le, lt, neg}
use Rattle.doubles.specs.Arithmetic.{whole}
use Rattle.words.specs.Words.{word_at, double_at}
use Rattle.days.specs.Table.{with_day_table}
use Rattle.objects.specs.Refusals.{number_of}
use Rattle.shading.specs.Call.{factor_call}
use Rattle.strips.specs.declared.glazing.TallGlazing.{TallGlazing}
use Rattle.strips.specs.Strips.{strips_call}
use Rattle.sun.specs.declared.site.Site.{Site}
use Rattle.simulation_time.specs.declared.run.Run.{Run}
use Rattle.jobs.specs.Job.{Job, job_of}
use Rattle.jobs.specs.Run.{Lent, lent, Left, run_of, number_for, step_for, count_for, sum_for}
use Rattle.text.specs.Text.{same_text, lines_of}
use Rattle.listing.specs.Listing.{body}
use Rattle.kept_answers.specs.KeptRecords.{list_end, part, surface_at}
use Rattle.kept_answers.specs.Leaves.{leaf_of}

-- ---- functions of one to three doubles

unfoldable pub leaf_differs : List ℕ → Bool
leaf_differs l = not (to_bits binary64 (leaf_of (word_at l 2) (double_at l 3) (double_at l 4) (double_at l 5)) == word_at l 6)

-- ---- factor calls

unfoldable pub is_factor : List ℕ → ℕ → Float → Bool
is_factor l number factor = word_at l 12 == number && word_at l 13 == to_bits binary64 factor

-- the factor is 0 where refused
unfoldable pub factor_kept : List ℕ → Result Float Refusal → Bool
factor_kept l (Ok factor) = is_factor l 0 factor
factor_kept l (Err refusal) = is_factor l (number_of refusal) (whole 0)

unfoldable pub factor_differs : List ℕ → Bool
factor_differs l =
    let a = list_end l 112 (word_at l 10) in
    let b = list_end l a (word_at l 11) in
    nat_lt (length l) 112 || not (factor_kept l (factor_call (word_at l 2) (double_at l 3) (double_at l 4) (surface_at l 5) (part l 112 a) (part l a b)))

-- ---- calls for tall glazing in strips

unfoldable pub glazing_of : List ℕ → TallGlazing
glazing_of l = record { tilt = double_at l 5; orientation = double_at l 6; base_height = double_at l 7; width = double_at l 8 }

unfoldable pub strips_differs : List ℕ → Bool
strips_differs l =
    let a = list_end l 112 (word_at l 9) in
    let b = list_end l a (word_at l 10) in
    let c = list_end l b (word_at l 11) in
    nat_lt (length l) 112 || not (factor_kept l (strips_call (word_at l 2) (double_at l 3) (double_at l 4) (glazing_of l) (part l 112 a) (part l a b) (part l b c)))

-- ---- shade listings: as much of the lines as a block can hold

unfoldable pub is_answered_by : List ℕ → List ℕ → Bool
is_answered_by text lines = same_text (take 65536 (body (lines_of text))) lines

unfoldable pub listing_differs : List ℕ → Bool
listing_differs l =
    let a = list_end l 32 (word_at l 2) in
    let b = list_end l a (word_at l 3) in
    nat_lt (length l) 32 || not (is_answered_by (part l 32 a) (part l a b))

-- ---- whole runs

-- the whole number that a double is, without its fraction; 0 where it is none of 64 bits
unfoldable pub whole_of : Float → ℤ
whole_of x = cond (le (neg (whole (2 ^ 63))) x) (cond (lt x (whole (2 ^ 63))) (to_signed 63 x) (pos 0)) (pos 0)

unfoldable pub site_of : List ℕ → Site
site_of l = record {
  latitude = double_at l 3;
  longitude = double_at l 4;
  timezone = whole_of (double_at l 5);
  start_day = word_at l 6;
  time_series_step = double_at l 7;
  leap_year = word_at l 8;
  direct_beam_conversion = word_at l 9;
  first_leaf_day = word_at l 10;
  last_leaf_day = word_at l 11;
}

unfoldable pub run_at : List ℕ → Run
run_at l = record { start = double_at l 12; end = double_at l 13; step = double_at l 14 }

-- the record's job with these lists
abbrev pub kept_job : List ℕ → List ℕ → List ℕ → List ℕ → List ℕ → List ℕ → List ℕ → Job
kept_job l diffuse direct reflectivity summer winter window =
    job_of (word_at l 2) (site_of l) (run_at l) (surface_at l 15) diffuse direct reflectivity summer winter window

-- number, step, count and sum are the record's
unfoldable pub is_run : List ℕ → ℕ → ℕ → ℕ → Float → Bool
is_run l number step count sum =
    (word_at l 28 == number) && word_at l 29 == step && (word_at l 30 == count && word_at l 31 == to_bits binary64 sum)

unfoldable pub answer_kept : List ℕ → Result Accepted RefusedAt → Bool
answer_kept l answer = is_run l (number_for answer) (step_for answer) (count_for answer) (sum_for answer)

-- a record that does not keep the totals has an empty list; any other has all that were lent, and so as many bytes
unfoldable pub totals_kept : List ℕ → List ℕ → Bool
totals_kept kept totals = (length kept) == 0 || same_text totals kept

-- with these results and these totals
unfoldable pub run_kept : List ℕ → List ℕ → List ℕ → Left → Bool
run_kept l results totals left =
    same_text left.ran.results results && totals_kept totals left.totals && answer_kept l left.ran.answer

-- before the run every byte of the lists is A5; as many of the totals are lent as the record says, at most 9,080, and as many of the
-- results as there are afterwards, at most 20,000
unfoldable pub lists_for : List ℕ → List ℕ → Lent
lists_for l results =
    lent (replicate 8784 0xA5) (take (word_at l 32) (replicate 9080 0xA5)) (take (length results) (replicate 20000 0xA5))

-- with the first three lists, behind which the other five follow from place `at` on
unfoldable pub series_kept : List ℕ → ℕ → List ℕ → List ℕ → List ℕ → Bool
series_kept l at diffuse direct reflectivity =
    let a = list_end l at (word_at l 23) in
    let b = list_end l a (word_at l 24) in
    let c = list_end l b (word_at l 25) in
    let d = list_end l c (word_at l 26) in
    let results = part l c d in
    let totals = part l d (list_end l d (word_at l 27)) in
    run_kept l results totals (run_of (kept_job l diffuse direct reflectivity (part l at a) (part l a b) (part l b c)) (lists_for l results))

unfoldable pub run_differs : List ℕ → Bool
run_differs l =
    let a = list_end l 264 (word_at l 20) in
    let b = list_end l a (word_at l 21) in
    let c = list_end l b (word_at l 22) in
    nat_lt (length l) 264 || not (series_kept l c (part l 264 a) (part l a b) (part l b c))

-- ---- the table of days

-- before the run every byte of the list is A5
unfoldable pub table_differs : List ℕ → Bool
table_differs l = nat_lt (length l) 16 || not (same_text (with_day_table (replicate 8784 0xA5)) (part l 16 (length l)))

-- ---- any record

-- one of no kind differs, and one that has not the size that it names
unfoldable pub kind_differs : ℕ → List ℕ → Bool
kind_differs kind l =
    cond (kind == 1) (run_differs l)
    (cond (kind == 2) (factor_differs l)
    (cond (kind == 3) (leaf_differs l)
    (cond (kind == 4) (listing_differs l)
    (cond (kind == 5) (table_differs l)
    (cond (kind == 6) (strips_differs l) true)))))

unfoldable pub record_differs : List ℕ → Bool
record_differs l = cond (word_at l 1 == length l) (kind_differs (word_at l 0) l) true
