-- The times of a run's steps: where they lie, that they never fall, and how many there are. Assumes nothing.
use Rattle.std.proofs.Common.{◌≡◌, ℕ, zero, suc, ◌+◌, ◌-◌, ◌<◌, ◌≤◌, Bool, true, false, T, length, get_or, sym, refl, ap, ◌∙◌, subst, true≢false, suc-le-suc, zero-le, lt_irrefl, arith, below_more}
use native.Mathlib.Decide.{dec_lt}
use lib.Ieee.{Float, binary64, ne}
use lib.Ieee.Fits.{add-fits}
use Rattle.doubles.specs.Arithmetic.{◌⊕◌, whole}
use Rattle.doubles.specs.Order.{◌≼◌, Fits}
use Rattle.doubles.proofs.Order.{le_refl, le_trans, right_number}
use Rattle.doubles.proofs.Bounds.{add_nonneg, add_nonneg_number, le-add}
use Rattle.simulation_time.specs.declared.run.Run.{Run}
use Rattle.simulation_time.specs.Steps.{goes_on, steps_from, step_count, time_at, times_from, times}
use Rattle.doubles.proofs.Differences.{below_difference}
use Rattle.simulation_time.proofs.Quarters.{quarters, quarters_grow, quarters_few}
use Rattle.simulation_time.proofs.Accepted.{Accepted, time_finite, step_nonneg, step_finite, end_finite}

-- ---- which steps there are

-- step i is there, if the one before it is
unfoldable pub there : Run → ℕ → Bool
unfolding time_at goes_on
there run zero = ne run.start run.end
there run (suc i) = goes_on run (time_at run i)

-- the steps that are counted, at most `most`
unfoldable pub counted_up_to : ℕ → Run → ℕ
counted_up_to most run = steps_from most run run.start (ne run.start run.end)

one_more : (run : Run) (most : ℕ) (time : Float) (b : Bool) → 0 < steps_from most run time b
    → (b ≡ true) × (steps_from most run time b ≡ suc (steps_from (most - 1) run (time ⊕ run.step) (goes_on run time)))
unfolding steps_from
one_more run zero time b h = absurd (omega arith)
one_more run (suc most) time false h = absurd (omega arith)
one_more run (suc most) time true h = let e : suc most - 1 ≡ most = omega arith in (refl, rw e)

counted_few : (run : Run) (most : ℕ) (time : Float) (b : Bool) → steps_from most run time b ≤ most
unfolding steps_from
counted_few run zero time b = zero-le
counted_few run (suc most) time false = zero-le
counted_few run (suc most) time true = suc-le-suc (counted_few run most (time ⊕ run.step) (goes_on run time))

pub count_few : (run : Run) → step_count run ≤ 35137
unfolding step_count
count_few run = counted_few run 35137 run.start (ne run.start run.end)

module _ (run : Run) (most : ℕ) where
  -- the count, seen from step i
  count_from : (i : ℕ) → i ≤ counted_up_to most run → counted_up_to most run ≡ i + steps_from (most - i) run (time_at run i) (there run i)
  unfolding counted_up_to time_at there
  count_from zero h = let e : most - 0 ≡ most = omega arith in rw e (omega arith)
  count_from (suc i) h =
      let before = count_from i (omega arith) in
      let next : steps_from (most - i) run (time_at run i) (there run i) ≡ suc (steps_from (most - i - 1) run (time_at run (suc i)) (there run (suc i))) =
      (one_more run (most - i) (time_at run i) (there run i) (omega (arith, before))).1 in
      let e : most - i - 1 ≡ most - suc i = omega arith in
      rw (← e) (omega (arith, before, next))

  pub there_below : (i : ℕ) → i < counted_up_to most run → there run i ≡ true
  there_below i h = (one_more run (most - i) (time_at run i) (there run i) (omega (arith, count_from i (omega arith)))).0

-- ---- where the times lie

-- what holds at step i
pub record Reached (run : Run) (i : ℕ) : Type 0 where
  pub low : whole 0 ≼ time_at run i
  pub high : time_at run i ≼ whole 8784
  pub fits : Fits (time_at run i)
  pub passed : i ≤ quarters (time_at run i)

module _ {run : Run} (a : Accepted run) where
  first : Reached run 0
  unfolding time_at
  first = record { low = a.start_low; high = a.start_high; fits = a.start_fits; passed = zero-le }

  -- the step after one that is not the last lies within the run
  next_within : (i : ℕ) → Reached run i → there run (suc i) ≡ true → time_at run (suc i) ≼ run.end
  unfolding time_at there goes_on
  next_within i r e =
      below_difference r.fits a.end_fits (time_finite r.low r.high) (step_finite a.step_length) (end_finite a) (record { holds = subst T (sym e) tt })

  onward : (i : ℕ) → Reached run i → there run (suc i) ≡ true → Reached run (suc i)
  unfolding time_at there
  onward i r e =
      let high : time_at run i ⊕ run.step ≼ whole 8784 = le_trans (next_within i r e) a.end_high in
      let low : whole 0 ≼ time_at run i ⊕ run.step = add_nonneg r.low (step_nonneg a.step_length) in
      let f = time_finite r.low r.high in
      let few : quarters (time_at run i) ≤ 35136 = quarters_few f r.low r.high in
      let more : quarters (time_at run i) < quarters (time_at run i ⊕ run.step) =
      quarters_grow f (step_finite a.step_length) r.low a.step_length.from (step_nonneg a.step_length) (time_finite low high) (omega arith) in
      record { low = low; high = high; fits = record { holds = add-fits binary64 (time_at run i) run.step }; passed = omega (arith, r.passed) }

  -- every step that is there is reached
  pub reached_from : (i : ℕ) → ((j : ℕ) → j < suc i → there run j ≡ true) → Reached run i
  reached_from zero h = first
  reached_from (suc i) h = onward i (reached_from i (λ j l. h j (omega arith))) (h (suc i) (omega arith))

  -- there are at most 35,137
  pub few_there : (n : ℕ) → ((j : ℕ) → j < n → there run j ≡ true) → n ≤ 35137
  few_there zero h = zero-le
  few_there (suc n) h =
      let r = reached_from n h in
      let few : quarters (time_at run n) ≤ 35136 = quarters_few (time_finite r.low r.high) r.low r.high in
      omega (arith, r.passed)

  -- the count ends because no further step is there
  ended : (most : ℕ) → 35137 ≤ most → there run (counted_up_to most run) ≡ false
  ended most h = go (there run (counted_up_to most run)) refl
    where
      n : ℕ
      n = counted_up_to most run

      stopped : (b : Bool) (k : ℕ) (time : Float) → 0 < k → b ≡ true → 0 < steps_from k run time b
      stopped b zero time h e = absurd (lt_irrefl 0 h)
      stopped true (suc k) time h e = unfold steps_from in omega arith
      stopped false (suc k) time h e = absurd (true≢false (sym e))

      go : (b : Bool) → there run n ≡ b → b ≡ false
      go false e = refl
      go true e =
          let all : (j : ℕ) → j < n + 1 → there run j ≡ true = below_more (λ (j : ℕ). there run j ≡ true) n (there_below run most) e in
          let few : n + 1 ≤ 35137 = few_there (n + 1) all in
          let some : 0 < steps_from (most - n) run (time_at run n) (there run n) = stopped (there run n) (most - n) (time_at run n) (omega arith) e in
          absurd (omega (arith, count_from run most n (omega arith)))

-- ---- the count

-- two numbers of which each is the first whose step is not there
same_count : (run : Run) (m n : ℕ) → ((i : ℕ) → i < m → there run i ≡ true) → there run m ≡ false → ((i : ℕ) → i < n → there run i ≡ true) → there run n ≡ false → m ≡ n
same_count run m n h e k f =
    elim (dec_lt m n) [
      | yes l ↦ absurd (true≢false (sym (k m l) ∙ e))
      | no g ↦ elim (dec_lt n m) [ yes l ↦ absurd (true≢false (sym (h n l) ∙ f)) | no l ↦ omega arith ]
    ]

module _ {run : Run} (a : Accepted run) where
  -- more fuel changes nothing
  pub enough : (most : ℕ) → 35137 ≤ most → counted_up_to most run ≡ step_count run
  unfolding step_count counted_up_to
  enough most h =
      same_count run (counted_up_to most run) (counted_up_to 35137 run) (there_below run most) (ended a most h) (there_below run 35137) (ended a 35137 (omega arith))

  pub step_there : (i : ℕ) → i < step_count run → there run i ≡ true
  unfolding step_count counted_up_to
  step_there i h = there_below run 35137 i h

  pub no_further : there run (step_count run) ≡ false
  unfolding step_count counted_up_to
  no_further = ended a 35137 (omega arith)

  -- no other number is the count
  pub count_is : (n : ℕ) → ((i : ℕ) → i < n → there run i ≡ true) → there run n ≡ false → n ≡ step_count run
  count_is n h e = same_count run n (step_count run) h e step_there no_further

  -- a step lies in the year
  pub reached : (i : ℕ) → i < step_count run → Reached run i
  reached i h = reached_from a i (λ j l. step_there j (omega arith))

  -- times never fall
  pub never_falls : (i j : ℕ) → i ≤ j → j < step_count run → time_at run i ≼ time_at run j
  unfolding time_at
  never_falls i zero h k =
      let e : i ≡ 0 = omega arith in
      rw e (le_refl (right_number (reached zero k).low))
  never_falls i (suc j) h k =
      elim (dec_lt j i) [
        | yes l ↦ let e : i ≡ suc j = omega arith in rw e (le_refl (right_number (reached (suc j) k).low))
        | no l ↦
            let r = reached j (omega arith) in
            le_trans (never_falls i j (omega arith) (omega arith)) (le-add r.fits (step_nonneg a.step_length) (add_nonneg_number r.low (step_nonneg a.step_length)))
      ]

-- ---- the list of times

module _ (step : Float) where
  pub length_times : (n : ℕ) (time : Float) → length (times_from n step time) ≡ n
  unfolding times_from
  length_times zero time = refl
  length_times (suc n) time = ap suc (length_times n (time ⊕ step))

pub times-length : (run : Run) → length (times run) ≡ step_count run
unfolding times
times-length run = length_times run.step (step_count run) run.start

-- the j-th of those from step i on
times_from_lem : (run : Run) (n i j : ℕ) (d : Float) → j < n → get_or (times_from n run.step (time_at run i)) j d ≡ time_at run (i + j)
unfolding times_from time_at
times_from_lem run zero i j d h = absurd (omega arith)
times_from_lem run (suc n) i zero d h = let e : i + 0 ≡ i = omega arith in rw e
times_from_lem run (suc n) i (suc j) d h =
    let e : suc i + j ≡ i + suc j = omega arith in
    times_from_lem run n (suc i) j d (omega arith) ∙ ap (time_at run) e

pub times_at : (run : Run) (i : ℕ) (d : Float) → i < step_count run → get_or (times run) i d ≡ time_at run i
unfolding times
times_at run i d h =
    let e : 0 + i ≡ i = omega arith in
    let at : get_or (times_from (step_count run) run.step run.start) i d ≡ time_at run (0 + i) = unfold time_at in times_from_lem run (step_count run) 0 i d h in
    at ∙ ap (time_at run) e

-- ---- the loop that counts

-- `count` steps are there, and `time` is the last one's
pub record Walked (run : Run) (count : ℕ) (time : Float) : Type 0 where
  pub some : 0 < count
  pub last : time ≡ time_at run (count - 1)
  pub all : (i : ℕ) → i < count → there run i ≡ true

-- the step after those, by the loop's test
next_there : (run : Run) (count : ℕ) (time : Float) → 0 < count → time ≡ time_at run (count - 1) → there run count ≡ goes_on run time
unfolding there
next_there run zero time h e = absurd (omega arith)
next_there run (suc n) time h e = let k : suc n - 1 ≡ n = omega arith in rw (e, k)

pub walked_first : (run : Run) → ne run.start run.end ≡ true → Walked run 1 run.start
unfolding time_at there
walked_first run e = record { some = omega arith; last = refl; all = λ i h. let z : i ≡ 0 = omega arith in rw z e }

module _ {run : Run} {count : ℕ} {time : Float} (w : Walked run count time) where
  pub walked_next : goes_on run time ≡ true → Walked run (count + 1) (time ⊕ run.step)
  unfolding time_at
  walked_next e = record {
    some = omega arith;
    last =
        let k : count + 1 - 1 ≡ suc (count - 1) = omega (arith, w.some) in
        rw k (ap (λ (t : Float). t ⊕ run.step) w.last);
    all = below_more (λ (j : ℕ). there run j ≡ true) count w.all (next_there run count time w.some w.last ∙ e);
  }

  pub walked_few : Accepted run → count ≤ 35137
  walked_few a = few_there a count w.all

  pub walked_end : Accepted run → goes_on run time ≡ false → count ≡ step_count run
  walked_end a e = count_is a count w.all (next_there run count time w.some w.last ∙ e)
