-- Two jobs compared: the claim, proved. The laws at one step (`Answers` of `shading_laws`) go through the rows that an accepted run leaves
-- to the factors in its results list, and by the order of sums to its sum. Assumes nothing.
use Rattle.std.specs.Prelude.{Ok}
use mathlib.Core.Path.{◌≡◌, refl, sym, ap, ap₂, ◌∙◌, subst, subst₂}
use mathlib.Core.Bool.{Bool, true}
use mathlib.Core.List.{List, []}
use Prim.Native.Nat.{ℕ, zero, suc, ◌+◌, ◌*◌, ◌/◌, ◌<◌}
use native.Mathlib.Nat.{lt_of_le_of_lt}
use lib.Dec.{lit<}
use lib.ListN.{take}
use lib.Ieee.{Float}
use Rattle.doubles.specs.Arithmetic.{◌⊕◌, ◌⊗◌, whole}
use Rattle.doubles.specs.Order.{◌≼◌}
use Rattle.words.specs.Words.{double_at}
use Rattle.irradiance.specs.declared.parts.Irradiance.{Irradiance}
use Rattle.sun.specs.declared.site.Site.{Site}
use Rattle.sun.specs.Site.{leap_year_of}
use Rattle.simulation_time.specs.Steps.{step_count, time_at}
use Rattle.simulation_time.specs.declared.run.Run.{Run}
use Rattle.simulation_time.specs.Timestep.{current_hour, series_index}
use Rattle.simulation_time.proofs.Accepted.{step_nonneg, step_finite}
use Rattle.simulation_time.proofs.Times.{count_few}
use Rattle.objects.specs.declared.sectors.ShadingSegment.{ShadingSegment}
use Rattle.objects.specs.declared.window.WindowShadingObject.{WindowShadingObject}
use Rattle.objects.specs.Objects.{counted}
use Rattle.shading.specs.Factor.{shading_factor}
use Rattle.objects.specs.Records.{sectors_of, window_objects_of}
use Rattle.words.specs.Lists.{PlaceByPlace}
use Rattle.seasons.proofs.Parts.{of_day_lem, of_two_days, day_fine}
use Rattle.shading_laws.specs.Premises.{Doubles, NoNanAt, MoreInSector, SameInSector}
use Rattle.shading_laws.specs.Sizes.{nothing, SectorShadesNoLess, NoLargerAnswer}
use Rattle.shading_laws.proofs.SizeLaws.{sizes_accepted}
use Rattle.shading_laws.proofs.Answers.{answer_nonneg, answer_le_one, answer_no_objects, answers_more_objects, answers_same_objects}
use Rattle.weather.specs.Weather.{read_series}
use Rattle.jobs.specs.Job.{Job, index_at, reading_at}
use Rattle.jobs.specs.Step.{sun_at, irradiance_at, sectors_at, job_sectors, shading_at}
use Rattle.jobs.specs.declared.answers.Totals.{Totals}
use Rattle.jobs.specs.Rows.{stored_row, with_row}
use Rattle.jobs.specs.Totals.{day_of_step, totals_of, totals_count, in_part, totals_at_part, totals_at, totals_records, with_totals}
use Rattle.jobs.specs.Run.{Ran, Lent, rows_stored, run_of, count_for, sum_for}
use Rattle.jobs.specs.Comparison.{factor_at, direct_at, count_of, sum_of, unshaded_sum, SameSeries, Alike, BoundedAlike, SeasonsBoundedAlike, HoldsAll, SameObjects, ShadesNoLessAll, NoneInSectors, NoObjects, NoNan, Lawful, NoLarger, RunsCompared, TotalsCompared, TwoJobsCompared}
use Rattle.jobs.proofs.StepRows.{StepRow, step_row, row_fits}
use Rattle.jobs.proofs.PassedChecks.{step_accepted, surface_accepted, near_accepted}
use Rattle.jobs.proofs.EveryHour.{step_angles, step_irradiance}
use Rattle.jobs.proofs.RunLaws.{row_at, sum_to, done, AcceptedRun, accepted_run, done_rows, totals_stepped}
use Rattle.jobs.proofs.TotalsRecords.{records_same}
use Rattle.jobs.proofs.TotalsLaws.{counts_same, largest_same, part_sum, totals_read, totals_front}
use Rattle.doubles.proofs.Exact.{one_times}
use Rattle.jobs.proofs.Sums.{total, total_same, total_nonneg, total_mono, Part, Amount, times_nonneg, times_mono, part_mono, part_le, part_of}
use Rattle.jobs.proofs.ObjectLists.{more_in_sectors, same_in_sectors, window_holds, no_window, none_counted}
use Rattle.segments.proofs.SameWalks.{level_back, found_has}

-- ---- what an accepted run leaves

-- what a step adds to the sum
shaded : Job → ℕ → Float
shaded job i = ((row_at job i).factor ⊗ (row_at job i).direct) ⊗ job.run.step

-- and to the unshaded one
unshaded : Job → ℕ → Float
unshaded job i = (row_at job i).direct ⊗ job.run.step

-- the sum is over all steps
every : ℕ → Bool
every i = true

sum_is : (job : Job) (n : ℕ) → sum_to job n ≡ total every (shaded job) n
unfolding sum_to with_row total every shaded
sum_is job zero = refl
sum_is job (suc n) = ap (λ (s : Float). s ⊕ ((row_at job n).factor ⊗ (row_at job n).direct) ⊗ job.run.step) (sum_is job n)

unshaded_is : (step : Float) (left : Ran) (n : ℕ) → unshaded_sum step left n ≡ total every (λ (i : ℕ). direct_at left i ⊗ step) n
unfolding unshaded_sum total every
unshaded_is step left zero = refl
unshaded_is step left (suc n) = ap (λ (s : Float). s ⊕ direct_at left n ⊗ step) (unshaded_is step left n)

module _ {job : Job} {lists : Lent} (a : AcceptedRun job lists) where
  count_is : count_of (done job lists.results) ≡ step_count job.run
  unfolding count_of count_for done
  count_is = refl

  sum_done : sum_of (done job lists.results) ≡ total every (shaded job) (step_count job.run)
  unfolding sum_of sum_for done
  sum_done = sum_is job (step_count job.run)

  factor_is : (i : ℕ) → i < step_count job.run → factor_at (done job lists.results) i ≡ (row_at job i).factor
  unfolding factor_at
  factor_is i h = (done_rows a i h).factor

  pub direct_is : (i : ℕ) → i < step_count job.run → direct_at (done job lists.results) i ≡ (row_at job i).direct
  unfolding direct_at
  direct_is i h = (done_rows a i h).direct

  -- the step behind a row
  pub row_of : (i : ℕ) → i < step_count job.run → StepRow job (time_at job.run i) (row_at job i)
  row_of i h = step_row job (time_at job.run i) (row_at job i) (a.has_rows i h)

  -- its factor is the answer of the lists' records
  factor_answer : (i : ℕ) → i < step_count job.run
      → shading_factor job.edition job.surface (sun_at job.site (time_at job.run i)).altitude (sun_at job.site (time_at job.run i)).azimuth (sectors_of (job_sectors job (time_at job.run i))) (window_objects_of job.window)
      ≡ Ok (row_at job i).factor
  unfolding shading_at
  factor_answer i h = (row_of i h).factor

-- ---- one run

module _ {job : Job} {lists : Lent} (a : AcceptedRun job lists) (d : Doubles job.surface) (n : NoNan job) where
  part : (i : ℕ) → i < step_count job.run → Part (row_at job i).factor
  part i h = record {
    low = answer_nonneg (surface_accepted a.checks d) (n.at_step i h) (near_accepted a.checks) (row_at job i).factor (factor_answer a i h);
    high = answer_le_one (surface_accepted a.checks d) (n.at_step i h) (near_accepted a.checks) (row_at job i).factor (factor_answer a i h);
  }

  -- no objects in either season, none on a day
  none_today : NoObjects job → (time : Float) → NoneInSectors (job_sectors job time)
  unfolding sectors_at
  none_today o time =
      of_day_lem job.summer job.winter a.checks.summer_fine a.checks.winter_fine NoneInSectors o.in_summer o.in_winter _ _ (current_hour time / 24)

  one : NoObjects job → (i : ℕ) → i < step_count job.run → (row_at job i).factor ≡ whole 1
  one o i h =
      let sun = sun_at job.site (time_at job.run i) in
      let sectors = job_sectors job (time_at job.run i) in
      answer_no_objects job.edition sun.altitude sun.azimuth (sectors_of sectors) (surface_accepted a.checks d)
      (found_has (λ (s : ShadingSegment). counted s ≡ []) sun.azimuth (sectors_of sectors) (none_counted sectors (none_today o (time_at job.run i))))
      (row_at job i).factor
      (subst (λ (ws : List WindowShadingObject). shading_factor job.edition job.surface sun.altitude sun.azimuth (sectors_of sectors) ws ≡ Ok (row_at job i).factor)
      (no_window job.window o.at_window) (factor_answer a i h))

  -- its direct value is finite and not negative
  amount : (i : ℕ) → i < step_count job.run → Amount (row_at job i).direct
  amount i h =
      let parts = step_irradiance a.checks i h in
      subst Amount (sym (row_of a i h).direct) (record { finite = parts.direct; low = parts.direct_from })

  -- and so is the part of it that is not shaded
  lit : (i : ℕ) → i < step_count job.run → Amount ((row_at job i).factor ⊗ (row_at job i).direct)
  lit i h = part_of (part i h) (amount i h) (row_fits (row_of a i h)).direct

  step_amount : Amount job.run.step
  step_amount = let r = step_accepted a.checks in record { finite = step_finite r; low = step_nonneg r }

  -- the unshaded sum is that of the rows
  unshaded_done : unshaded_sum job.run.step (done job lists.results) (step_count job.run) ≡ total every (unshaded job) (step_count job.run)
  unfolding unshaded
  unshaded_done =
      unshaded_is job.run.step (done job lists.results) (step_count job.run)
      ∙ total_same every (λ (i : ℕ). direct_at (done job lists.results) i ⊗ job.run.step) (unshaded job) (step_count job.run)
      (λ i h. ap (λ (d : Float). d ⊗ job.run.step) (direct_is a i h))

  shaded_nonneg : (i : ℕ) → i < step_count job.run → whole 0 ≼ shaded job i
  unfolding shaded
  shaded_nonneg i h = times_nonneg (lit i h) step_amount

  shaded_le : (i : ℕ) → i < step_count job.run → shaded job i ≼ unshaded job i
  unfolding shaded unshaded
  shaded_le i h = times_mono (lit i h) (amount i h) step_amount (part_le (part i h) (amount i h) (row_fits (row_of a i h)).direct)

  shaded_one : NoObjects job → (i : ℕ) → i < step_count job.run → shaded job i ≡ unshaded job i
  unfolding shaded unshaded
  shaded_one o i h =
      ap (λ (x : Float). x ⊗ job.run.step)
      (ap (λ (x : Float). x ⊗ (row_at job i).direct) (one o i h) ∙ one_times (row_fits (row_of a i h)).direct)

  lawful : Lawful job (done job lists.results)
  unfolding count_of count_for done
  lawful =
      let n : ℕ = step_count job.run in
      record {
        count = count_is a;
        factor_from = λ i h. rw (factor_is a i h) (part i h).low;
        factor_to = λ i h. rw (factor_is a i h) (part i h).high;
        factor_one = λ o i h. factor_is a i h ∙ one o i h;
        direct_finite = λ i h. rw (direct_is a i h) (amount i h).finite;
        sum_from = rw (sum_done a) (total_nonneg every (shaded job) n shaded_nonneg);
        sum_up_to = rw (sum_done a, unshaded_done) (total_mono every (shaded job) (unshaded job) n shaded_nonneg shaded_le);
        sum_unshaded = λ o. sum_done a ∙ total_same every (shaded job) (unshaded job) n (shaded_one o) ∙ sym unshaded_done;
      }

-- ---- both

-- jobs that are alike read the same values
reading_alike : {j k : Job} → Alike j k → (time : Float) → reading_at j time ≡ reading_at k time
unfolding read_series reading_at index_at
reading_alike {j} {k} l time =
    let e : index_at j time ≡ index_at k time = ap (λ (s : Site). series_index time s.start_day s.time_series_step) l.sites in
    λ x. record {
      diffuse = (l.diffuses.values (index_at j time) ∙ ap (double_at k.diffuse) e) x;
      direct = (l.directs.values (index_at j time) ∙ ap (double_at k.direct) e) x;
      reflectivity = (l.reflectivities.values (index_at j time) ∙ ap (double_at k.reflectivity) e) x;
    }

module _ {j k : Job} {r s : Lent} (l : Alike j k) (a : AcceptedRun j r) (b : AcceptedRun k s) where
  counts_alike : step_count j.run ≡ step_count k.run
  counts_alike = ap step_count l.runs

  -- the same irradiance
  parts_alike : (i : ℕ) → irradiance_at j.site j.surface (time_at j.run i) (reading_at j (time_at j.run i))
      ≡ irradiance_at k.site k.surface (time_at k.run i) (reading_at k (time_at k.run i))
  parts_alike i =
      let time : time_at j.run i ≡ time_at k.run i = ap (λ (run : Run). time_at run i) l.runs in
      let reading : reading_at j (time_at j.run i) ≡ reading_at k (time_at k.run i) = reading_alike l (time_at j.run i) ∙ ap (reading_at k) time in
      λ x. irradiance_at (l.sites x) (l.surfaces x) (time x) (reading x)

  directs_alike : (i : ℕ) → i < step_count j.run → (row_at j i).direct ≡ (row_at k i).direct
  directs_alike i h =
      (row_of a i h).direct ∙ ap (λ (p : Irradiance). p.direct) (parts_alike i) ∙ sym (row_of b i (rw (← counts_alike) h)).direct

  totals_alike : (i : ℕ) → i < step_count j.run → (row_at j i).total ≡ (row_at k i).total
  totals_alike i h =
      (row_of a i h).total ∙ ap (λ (p : Irradiance). p.total) (parts_alike i) ∙ sym (row_of b i (rw (← counts_alike) h)).total

  -- the second job's answer and extents, at the first one's site, times and surface
  module _ (d : Doubles j.surface) (n : NoNan j) (m : NoNan k) (c : SeasonsBoundedAlike j k) where
    second_answer : (i : ℕ) → i < step_count j.run
        → shading_factor j.edition j.surface (sun_at j.site (time_at j.run i)).altitude (sun_at j.site (time_at j.run i)).azimuth (sectors_of (sectors_at j.site k.summer k.winter (time_at j.run i))) (window_objects_of k.window)
        ≡ Ok (row_at k i).factor
    second_answer i h = rw (l.editions, l.sites, l.runs, l.surfaces) (factor_answer b i (rw (← counts_alike) h))

    second_extents : (i : ℕ) → i < step_count j.run
        → NoNanAt j.edition j.surface (sun_at j.site (time_at j.run i)).altitude (sun_at j.site (time_at j.run i)).azimuth (sectors_of (sectors_at j.site k.summer k.winter (time_at j.run i))) (window_objects_of k.window)
    second_extents i h = rw (l.editions, l.sites, l.runs, l.surfaces) (m.at_step i (rw (← counts_alike) h))

    -- what relates the lists of both in each season relates those of a day
    on_both_days : (P : List ℕ → List ℕ → Type 0) → P j.summer k.summer → P j.winter k.winter → (time : Float)
        → P (job_sectors j time) (sectors_at j.site k.summer k.winter time)
    unfolding sectors_at
    on_both_days P p q time =
        of_two_days j.summer j.winter k.summer k.winter a.checks.summer_fine a.checks.winter_fine b.checks.summer_fine
        b.checks.winter_fine P p q j.site.first_leaf_day j.site.last_leaf_day (current_hour time / 24)

    factors_more : HoldsAll k j → (i : ℕ) → i < step_count j.run → (row_at k i).factor ≼ (row_at j i).factor
    factors_more o i h =
        answers_more_objects (surface_accepted a.checks d) (n.at_step i h) (second_extents i h) (near_accepted a.checks) (near_accepted b.checks)
        (row_at j i).factor (row_at k i).factor (factor_answer a i h) (second_answer i h)
        (on_both_days (λ (l m : List ℕ). PlaceByPlace MoreInSector (sectors_of l) (sectors_of m))
        (more_in_sectors j.summer k.summer a.checks.summer_fine b.checks.summer_fine c.in_summer o.in_summer)
        (more_in_sectors j.winter k.winter a.checks.winter_fine b.checks.winter_fine c.in_winter o.in_winter) (time_at j.run i))
        (window_holds j.window k.window o.at_window)

    factors_fall : ShadesNoLessAll k j → (i : ℕ) → i < step_count j.run → (row_at k i).factor ≼ (row_at j i).factor
    unfolding NoLargerAnswer sun_at sectors_at
    factors_fall o i h =
        let time = time_at j.run i in
        let second = sectors_at j.site k.summer k.winter time in
        subst₂ NoLargerAnswer (factor_answer a i h) (second_answer i h)
        (sizes_accepted j.edition j.surface (sun_at j.site time).altitude (sun_at j.site time).azimuth (job_sectors j time) second j.window k.window
        a.checks.surface_fine_lem d (step_angles a.checks i h).altitude
        (day_fine k.summer k.winter b.checks.summer_fine b.checks.winter_fine j.site.first_leaf_day j.site.last_leaf_day (current_hour time / 24))
        a.checks.window_fine_lem b.checks.window_fine_lem (n.at_step i h) (second_extents i h)
        (on_both_days (λ (l m : List ℕ). PlaceByPlace (SectorShadesNoLess nothing) (sectors_of l) (sectors_of m)) o.in_summer o.in_winter time)
        o.at_window)

    factors_same : SameObjects j k → (i : ℕ) → i < step_count j.run → (row_at j i).factor ≡ (row_at k i).factor
    factors_same o i h =
        answers_same_objects (surface_accepted a.checks d) (n.at_step i h) (second_extents i h) (near_accepted a.checks) (near_accepted b.checks)
        (row_at j i).factor (row_at k i).factor (factor_answer a i h) (second_answer i h)
        (on_both_days (λ (l m : List ℕ). PlaceByPlace SameInSector (sectors_of l) (sectors_of m))
        (same_in_sectors j.summer k.summer a.checks.summer_fine b.checks.summer_fine c.in_summer o.there.in_summer o.back.in_summer)
        (same_in_sectors j.winter k.winter a.checks.winter_fine b.checks.winter_fine c.in_winter o.there.in_winter o.back.in_winter)
        (time_at j.run i))
        (window_holds j.window k.window o.there.at_window) (window_holds k.window j.window o.back.at_window)

    shaded_same : SameObjects j k → (i : ℕ) → i < step_count j.run → shaded j i ≡ shaded k i
    unfolding shaded
    shaded_same o i h = λ x. (factors_same o i h x ⊗ directs_alike i h x) ⊗ (l.runs x).step

    second_doubles : Doubles k.surface
    second_doubles = subst Doubles l.surfaces d

    -- where no factor of the second is larger
    module _ (falls : (i : ℕ) → i < step_count j.run → (row_at k i).factor ≼ (row_at j i).factor) where
      -- at a step of the second
      of_first : {i : ℕ} → i < step_count k.run → i < step_count j.run
      of_first h = rw counts_alike h

      shaded_more : (i : ℕ) → i < step_count k.run → shaded k i ≼ shaded j i
      unfolding shaded
      shaded_more i h =
          let direct : (row_at k i).direct ≡ (row_at j i).direct = sym (directs_alike i (of_first h)) in
          let step : k.run.step ≡ j.run.step = ap (λ (run : Run). run.step) (sym l.runs) in
          let more : (row_at k i).factor ⊗ (row_at k i).direct ≼ (row_at j i).factor ⊗ (row_at k i).direct =
          part_mono (part a d n i (of_first h)) (part b second_doubles m i h) (amount b second_doubles m i h) (falls i (of_first h)) in
          let first : Amount ((row_at j i).factor ⊗ (row_at k i).direct) =
          subst (λ (e : Float). Amount ((row_at j i).factor ⊗ e)) (sym direct) (lit a d n i (of_first h)) in
          subst₂ (λ (e t : Float). ((row_at k i).factor ⊗ (row_at k i).direct) ⊗ k.run.step ≼ ((row_at j i).factor ⊗ e) ⊗ t) direct step
          (times_mono (lit b second_doubles m i h) first (step_amount b second_doubles m) more)

      -- the run is nowhere larger
      no_larger : NoLarger (done k s.results) (done j r.results)
      unfolding count_of count_for done
      no_larger = record {
        factors = λ i h. rw (factor_is b i h, factor_is a i (of_first h)) (falls i (of_first h));
        sums = rw (sum_done a, sum_done b, counts_alike) (total_mono every (shaded k) (shaded j) (step_count k.run) (shaded_nonneg b second_doubles m) shaded_more);
      }

-- alike and bounded alike, the other way round
series_back : {l m : List ℕ} → SameSeries l m → SameSeries m l
series_back e = record { lengths = sym e.lengths; values = λ i. sym (e.values i) }

alike_back : {j k : Job} → Alike j k → Alike k j
alike_back l = record {
  editions = sym l.editions;
  sites = sym l.sites;
  runs = sym l.runs;
  surfaces = sym l.surfaces;
  diffuses = series_back l.diffuses;
  directs = series_back l.directs;
  reflectivities = series_back l.reflectivities;
}

bounded_back : {l m : List ℕ} → BoundedAlike l m → BoundedAlike m l
bounded_back b = record {
  lengths = sym b.lengths;
  starts = λ i h. level_back (b.starts i (rw b.lengths h));
  ends = λ i h. level_back (b.ends i (rw b.lengths h));
}

seasons_back : {j k : Job} → SeasonsBoundedAlike j k → SeasonsBoundedAlike k j
seasons_back c = record { in_summer = bounded_back c.in_summer; in_winter = bounded_back c.in_winter }

module _ {j k : Job} {r s : Lent} (l : Alike j k) (a : AcceptedRun j r) (b : AcceptedRun k s) (d : Doubles j.surface) (n : NoNan j) (m : NoNan k)
    (c : SeasonsBoundedAlike j k) where
  runs_compared : RunsCompared j k (done j r.results) (done k s.results)
  unfolding count_of count_for done
  runs_compared =
      let count : ℕ = step_count j.run in
      let same : step_count j.run ≡ step_count k.run = counts_alike l a b in
      let back = no_larger (alike_back l) b a (second_doubles l a b d n m c) m n (seasons_back c) in
      record {
        first = lawful a d n;
        second = lawful b (second_doubles l a b d n m c) m;
        counts = same;
        directs = λ i h. direct_is a i h ∙ directs_alike l a b i h ∙ sym (direct_is b i (rw (← same) h));
        same_factors = λ o i h. factor_is a i h ∙ factors_same l a b d n m c o i h ∙ sym (factor_is b i (rw (← same) h));
        same_sums = λ o. sum_done a ∙ total_same every (shaded j) (shaded k) count (shaded_same l a b d n m c o) ∙ ap (total every (shaded k)) same ∙ sym (sum_done b);
        second_more = λ o. no_larger l a b d n m c (factors_more l a b d n m c o);
        first_more = λ o. back (factors_more (alike_back l) b a (second_doubles l a b d n m c) m n (seasons_back c) o);
        second_sizes = λ o. no_larger l a b d n m c (factors_fall l a b d n m c o);
        first_sizes = λ o. back (factors_fall (alike_back l) b a (second_doubles l a b d n m c) m n (seasons_back c) o);
      }

-- ---- totals

-- what an accepted run leaves of them
module _ {job : Job} {lists : Lent} (a : AcceptedRun job lists) where
  abbrev leap : Bool
  leap = leap_year_of job.site

  abbrev rows : List ℕ
  rows = (done job lists.results).results

  totals_are : (run_of job lists).totals ≡ with_totals leap job.run rows (step_count job.run) lists.totals
  unfolding done rows_stored
  totals_are =
      totals_stepped job lists (step_count job.run) a.steps
      ∙ ap (λ (r : Ran). with_totals leap job.run r.results (rows_stored r.answer) lists.totals) a.comes_to

  -- of each day and month
  totals_read_back : (p : ℕ) → p < totals_count leap → totals_at (run_of job lists).totals p ≡ totals_at_part leap job.run rows (step_count job.run) p
  totals_read_back p h =
      ap (λ (l : List ℕ). totals_at l p) totals_are
      ∙ totals_read leap job.run rows (step_count job.run) lists.totals (lt_of_le_of_lt (count_few job.run) (lit< tt)) p h

  row_stored : (i : ℕ) → i < step_count job.run → (stored_row rows i).total ≡ (row_at job i).total
  unfolding stored_row
  row_stored i h = (done_rows a i h).total

  -- the sum of a part, by the rows
  part_sum_is : (part : ℕ → Bool)
      → (totals_of part job.run rows (step_count job.run)).sum ≡ total (λ (i : ℕ). part (day_of_step job.run i)) (shaded job) (step_count job.run)
  unfolding shaded stored_row
  part_sum_is part =
      part_sum part job.run rows (step_count job.run)
      ∙ total_same (λ (i : ℕ). part (day_of_step job.run i)) _ (shaded job) (step_count job.run)
      (λ i h. ap₂ (λ (f e : Float). (f ⊗ e) ⊗ job.run.step) (done_rows a i h).factor (done_rows a i h).direct)

-- of both
module _ {j k : Job} {r s : Lent} (l : Alike j k) (a : AcceptedRun j r) (b : AcceptedRun k s) where
  abbrev first : ℕ → Totals
  first = totals_at_part (leap_year_of j.site) j.run (rows a) (step_count j.run)

  abbrev second : ℕ → Totals
  second = totals_at_part (leap_year_of k.site) k.run (rows b) (step_count k.run)

  records_alike : totals_count (leap_year_of j.site) ≡ totals_count (leap_year_of k.site)
  records_alike = ap (λ (site : Site). totals_count (leap_year_of site)) l.sites

  -- the second job's rows over the first one's run: the parts of the year and their days are the same
  over_first : (p : ℕ) → totals_at_part (leap_year_of j.site) j.run (rows b) (step_count j.run) p ≡ second p
  over_first p = λ x. totals_at_part (leap_year_of (l.sites x)) (l.runs x) (rows b) (step_count (l.runs x)) p

  first_is : (p : ℕ) → p < totals_count (leap_year_of j.site) → totals_at (run_of j r).totals p ≡ first p
  first_is p h = totals_read_back a p h

  second_is : (p : ℕ) → p < totals_count (leap_year_of j.site) → totals_at (run_of k s).totals p ≡ second p
  second_is p h = totals_read_back b p (rw (← records_alike) h)

  parts_count : (p : ℕ) → (first p).count ≡ (second p).count
  unfolding totals_at_part
  parts_count p = counts_same (in_part (leap_year_of j.site) p) j.run (rows a) (rows b) (step_count j.run) ∙ ap (λ (t : Totals). t.count) (over_first p)

  parts_largest : (p : ℕ) → (first p).largest ≡ (second p).largest
  unfolding totals_at_part
  parts_largest p =
      largest_same (in_part (leap_year_of j.site) p) j.run (rows a) (rows b) (step_count j.run)
      (λ i h. row_stored a i h ∙ totals_alike l a b i h ∙ sym (row_stored b i (rw (← counts_alike l a b) h)))
      ∙ ap (λ (t : Totals). t.largest) (over_first p)

  -- the steps of a part, the same in both
  chosen_alike : (p : ℕ) (x : ℕ → Float)
      → total (λ (i : ℕ). in_part (leap_year_of j.site) p (day_of_step j.run i)) x (step_count j.run)
      ≡ total (λ (i : ℕ). in_part (leap_year_of k.site) p (day_of_step k.run i)) x (step_count k.run)
  chosen_alike p x = λ y. total (λ (i : ℕ). in_part (leap_year_of (l.sites y)) p (day_of_step (l.runs y) i)) x (step_count (l.runs y))

  -- both sums, over the second job's steps
  first_sum : (p : ℕ) → (first p).sum ≡ total (λ (i : ℕ). in_part (leap_year_of k.site) p (day_of_step k.run i)) (shaded j) (step_count k.run)
  unfolding totals_at_part
  first_sum p = part_sum_is a (in_part (leap_year_of j.site) p) ∙ chosen_alike p (shaded j)

  second_sum : (p : ℕ) → (second p).sum ≡ total (λ (i : ℕ). in_part (leap_year_of k.site) p (day_of_step k.run i)) (shaded k) (step_count k.run)
  unfolding totals_at_part
  second_sum p = part_sum_is b (in_part (leap_year_of k.site) p)

  module _ (d : Doubles j.surface) (n : NoNan j) (m : NoNan k) (c : SeasonsBoundedAlike j k) where
    -- the same objects
    parts_same : SameObjects j k → (p : ℕ) → first p ≡ second p
    parts_same o p =
        let sums : (first p).sum ≡ (second p).sum =
        first_sum p
        ∙ total_same (λ (i : ℕ). in_part (leap_year_of k.site) p (day_of_step k.run i)) (shaded j) (shaded k) (step_count k.run)
        (λ i h. shaded_same l a b d n m c o i (rw (counts_alike l a b) h))
        ∙ sym (second_sum p) in
        λ x. record { count = parts_count p x; largest = parts_largest p x; sum = sums x }

    -- where no factor of the second is larger
    parts_more : ((i : ℕ) → i < step_count j.run → (row_at k i).factor ≼ (row_at j i).factor) → (p : ℕ) → p < totals_count (leap_year_of j.site) → (totals_at (run_of k s).totals p).sum ≼ (totals_at (run_of j r).totals p).sum
    parts_more falls p h =
        rw (second_is p h, first_is p h, second_sum p, first_sum p)
        (total_mono (λ (i : ℕ). in_part (leap_year_of k.site) p (day_of_step k.run i)) (shaded k) (shaded j) (step_count k.run)
        (shaded_nonneg b (second_doubles l a b d n m c) m) (shaded_more l a b d n m c falls))

    same_bytes : SameObjects j k
        → take (24 * totals_count (leap_year_of j.site)) (run_of j r).totals ≡ take (24 * totals_count (leap_year_of j.site)) (run_of k s).totals
    same_bytes o =
        let front-a : take (24 * totals_count (leap_year_of j.site)) (run_of j r).totals ≡ totals_records first (totals_count (leap_year_of j.site)) 0 =
        ap (take (24 * totals_count (leap_year_of j.site))) (totals_are a) ∙ totals_front (leap_year_of j.site) j.run (rows a) (step_count j.run) r.totals in
        let front-b : take (24 * totals_count (leap_year_of k.site)) (run_of k s).totals ≡ totals_records second (totals_count (leap_year_of k.site)) 0 =
        ap (take (24 * totals_count (leap_year_of k.site))) (totals_are b) ∙ totals_front (leap_year_of k.site) k.run (rows b) (step_count k.run) s.totals in
        front-a
        ∙ records_same first second (totals_count (leap_year_of j.site)) 0 (λ i h. parts_same o (0 + i))
        ∙ ap (λ (count : ℕ). totals_records second count 0) records_alike ∙ sym front-b
        ∙ ap (λ (count : ℕ). take (24 * count) (run_of k s).totals) (sym records_alike)

module _ {j k : Job} {r s : Lent} (l : Alike j k) (a : AcceptedRun j r) (b : AcceptedRun k s) (d : Doubles j.surface) (n : NoNan j) (m : NoNan k)
    (c : SeasonsBoundedAlike j k) where
  parts_more_back : ((i : ℕ) → i < step_count k.run → (row_at j i).factor ≼ (row_at k i).factor)
      → (p : ℕ) → p < totals_count (leap_year_of j.site) → (totals_at (run_of j r).totals p).sum ≼ (totals_at (run_of k s).totals p).sum
  parts_more_back falls p h = parts_more (alike_back l) b a (second_doubles l a b d n m c) m n (seasons_back c) falls p (rw (← records_alike l a b) h)

  totals_compared : TotalsCompared j k (run_of j r).totals (run_of k s).totals
  totals_compared = record {
    counts = λ p h. ap (λ (t : Totals). t.count) (first_is l a b p h) ∙ parts_count l a b p ∙ ap (λ (t : Totals). t.count) (sym (second_is l a b p h));
    largest = λ p h. ap (λ (t : Totals). t.largest) (first_is l a b p h) ∙ parts_largest l a b p ∙ ap (λ (t : Totals). t.largest) (sym (second_is l a b p h));
    same_bytes = same_bytes l a b d n m c;
    second_more = λ o. parts_more l a b d n m c (factors_more l a b d n m c o);
    first_more = λ o. parts_more_back (factors_more (alike_back l) b a (second_doubles l a b d n m c) m n (seasons_back c) o);
    second_sizes = λ o. parts_more l a b d n m c (factors_fall l a b d n m c o);
    first_sizes = λ o. parts_more_back (factors_fall (alike_back l) b a (second_doubles l a b d n m c) m n (seasons_back c) o);
  }

-- ---- the claim

pub two_jobs_compared : TwoJobsCompared
two_jobs_compared j k r s c =
    let a = accepted_run j r c.first_accepted in
    let b = accepted_run k s c.second_accepted in
    record {
      runs = subst₂ (RunsCompared j k) (sym a.comes_to) (sym b.comes_to) (runs_compared c.alike a b c.doubles c.first_extents c.second_extents c.bounded);
      totals = totals_compared c.alike a b c.doubles c.first_extents c.second_extents c.bounded;
    }
