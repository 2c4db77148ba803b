-- `run_steps` meets its contract. The loop's invariant: from here the run goes on to what it comes to from the start, what is kept is
-- that of its hour, and the totals with what is kept of them are those of the steps so far.
use Rattle.std.specs.Prelude.{Ok}
use Rattle.std.proofs.Common.{◌≡◌, ℕ, suc, ◌+◌, ◌-◌, ◌*◌, ◌/◌, ◌≤◌, ◌<◌, true, List, length, refl, sym, ap, ◌∙◌, subst, arith}
use mathlib.Core.Path.{ap₂}
use lib.Dec.{T}
use lib.Ieee.{Float, of_bits}
use Rattle.doubles.specs.Arithmetic.{◌⊕◌, whole}
use Rattle.words.specs.Words.{word_count}
use Rattle.calendar.specs.Calendar.{days_in_year}
use Rattle.sun.specs.declared.site.Site.{Site}
use Rattle.sun.specs.Site.{leap_year_of, hours_in_year}
use Rattle.simulation_time.specs.declared.run.Run.{Run}
use Rattle.simulation_time.specs.Steps.{step_count, time_at}
use Rattle.simulation_time.specs.RunChecks.{run_accepted}
use Rattle.simulation_time.specs.Timestep.{current_hour}
use Rattle.simulation_time.proofs.Times.{count_few}
use Rattle.objects.specs.Objects.{placed}
use Rattle.objects.specs.Records.{window_of}
use Rattle.object_checks.specs.Checks.{window_fine}
use Rattle.steps.specs.Kept.{fixed_of}
use Rattle.runs.specs.declared.kept.Setting.{Setting}
use Rattle.object_checks.proofs.AcceptedWindow.{window_count_lem, window_places}
use Rattle.jobs.specs.Job.{index_at, reading_at}
use Rattle.jobs.specs.Step.{step_at}
use Rattle.jobs.specs.Totals.{day_of_step, totals_count, with_totals}
use Rattle.jobs.specs.Run.{run_from, rows_stored}
use Rattle.jobs.proofs.PassedChecks.{day_of_year}
use Rattle.totals.specs.Kept.{kept_totals, put_kept}
use Rattle.totals.proofs.Kept.{none_added, kept_stored, year_starts}
use Rattle.runs.specs.Asked.{job_lent}
use Rattle.runs.specs.declared.kept.Kept.{Kept}
use Rattle.runs.specs.Kept.{Ready, kept_at}
use Rattle.runs.proofs.CheckSteps.{start_day_lem}
use Rattle.runs.proofs.KeptLaws.{hour_number, totals_of_kept, of_its_hour, with_totals_lem, step_by_kept}
use Rattle.runs.proofs.StepByStep.{row_next, refused_here, at_end, at_start, has_records, come_on, kept_counted, totals_next, kept_next}
use Rattle.runs.proofs.run.run_steps.Goals as goal
use Rattle.runs.proofs.run.run_steps.Goals.{Joined-hour-kept, then-hour-kept, else-hour-kept}

pub window_of-requires : goal.window_of-requires
window_of-requires c = window_count_lem c.args.job.now.window.now (subst T (sym c.requires.window_value) tt)

-- what holds of the setting
ready : (setting : Setting) → setting.seasons.summer.bytes.now ≡ setting.job.summer.now → setting.seasons.winter.bytes.now ≡ setting.job.winter.now
    → setting.seasons.first ≡ setting.job.site.first_leaf_day → setting.seasons.last ≡ setting.job.site.last_leaf_day
    → window_fine setting.job.window.now ≡ true → setting.fixed ≡ fixed_of setting.job.site setting.job.surface → setting.objects ≡ window_of setting.job.window.now
    → Ready setting
unfolding placed
ready setting s w a b o f e = record {
  summer = s;
  winter = w;
  first = a;
  last = b;
  fixed = f;
  objects = ap placed e ∙ window_places setting.job.window.now (subst T (sym o) tt);
}

pub first-kept-requires : goal.first-kept-requires
first-kept-requires c =
    let q = c.requires in
    ready _ refl refl refl refl q.window_value c.fixed_of.ensures c.window_of.ensures

-- what the totals have where the loop goes on
module _ (site : Site) (run : Run) (count : ℕ) (is : count ≡ step_count run) (i : ℕ) (h : i < count) where
  few : i < 35137
  few = let most = subst (λ (n : ℕ). n ≤ 35137) (sym is) (count_few run) in omega arith

  day_of_lem : run_accepted (hours_in_year site) run ≡ true → day_of_step run i < days_in_year (leap_year_of site)
  day_of_lem fine = day_of_year site run (subst T (sym fine) tt) i (subst (λ (n : ℕ). i < n) is h)

  hour_there : run_accepted (hours_in_year site) run ≡ true → (time : Float) → time ≡ time_at run i → current_hour time / 24 < days_in_year (leap_year_of site)
  hour_there fine time e = subst (λ (t : Float). current_hour t / 24 < days_in_year (leap_year_of site)) (sym e) (day_of_lem fine)

room : (count i : ℕ) (old results : List ℕ) → i < count → 6 * count ≤ word_count old → length results ≡ length old → 6 * i + 6 ≤ word_count results
room count i old results h fits e = unfold word_count in omega (arith, e, h, fits)

pub loop-i-init : goal.loop-i-init
unfolding of_bits whole time_at
loop-i-init c =
    let a = c.args in
    let job = job_lent a.job.now in
    let leap = leap_year_of job.site in
    let none : a.totals.now ≡ with_totals leap job.run a.results.now 0 a.totals.now =
    c.requires.totals_value ∙ none_added leap job.run a.results.now a.totals.now in
    let kept = c.first-kept.ensures in
    let hour = hour_number job 0 _ _ kept in
    let known : c.first-kept.result.totals ≡ kept_totals leap 0 a.totals.now = totals_of_kept job 0 _ _ kept in
    record {
      kept = of_its_hour job 0 _ _ kept;
      time = refl;
      run = at_start job a.count a.results.now;
      stored = ap₂ put_kept none (known ∙ ap (kept_totals leap 0) none) ∙ kept_stored leap job.run a.results.now a.totals.now 0 0 (omega arith) (year_starts leap);
      read = known ∙ ap₂ (λ (h : ℕ) (l : List ℕ). kept_totals leap (h / 24) l) (sym hour) none;
      day = subst (λ (h : ℕ). h / 24 < days_in_year leap) (sym hour) (year_starts leap);
    }

-- the list of totals stays as long as it was
wide : (site : Site) (old totals : List ℕ) → 24 * totals_count (leap_year_of site) ≤ length old → length totals ≡ length old
    → 24 * totals_count (leap_year_of site) ≤ length totals
wide site old totals fits e = subst (λ (m : ℕ). 24 * totals_count (leap_year_of site) ≤ m) (sym e) fits

pub enter-requires : goal.enter-requires
enter-requires c =
    let a = c.args in
    let site = a.job.now.site in
    let q = c.requires in
    let l = c.loop-i in
    let there = hour_there site a.job.now.run a.count q.count_value l.i c.loop-i-test.true q.run_value l.time l.invariant.time in
    record {
      ready = ready _ refl refl refl refl q.window_value c.fixed_of.ensures c.window_of.ensures;
      day_bound = subst (λ (h : ℕ). h / 24 < days_in_year (leap_year_of site)) (sym c.current_hour-hour.ensures) there;
      kept_value = l.invariant.kept;
      has_records = has_records (leap_year_of site) _ _ _ _ l.invariant.read l.invariant.day (wide site a.totals.now l.totals q.site_in_bounds l.auto.totals);
    }

-- what the step goes by is that of its hour, whichever way it came
kept_now : (c : Joined-hour-kept)
    → let l = c.loop-i in
    let a = c.args in
    let job = job_lent a.job.now in
    let leap = leap_year_of job.site in
    let s = c.if-hour-kept in
    let so_far = with_totals leap job.run l.results l.i a.totals.now in
    (s.kept ≡ kept_at job s.kept.totals (current_hour l.time))
    × (put_kept s.totals s.kept.totals ≡ so_far)
    × (s.kept.totals ≡ kept_totals leap (current_hour l.time / 24) so_far)
kept_now c =
    let l = c.loop-i in
    let q = l.invariant in
    let job = job_lent c.args.job.now in
    let leap = leap_year_of job.site in
    let same = c.current_hour-hour.ensures in
    let so_far = with_totals leap job.run l.results l.i c.args.totals.now in
    let there = hour_there job.site job.run c.args.count c.requires.count_value l.i c.loop-i-test.true c.requires.run_value l.time q.time in
    elim c.if-hour-kept.branch [
      | then-hour-kept w ↦
          let came = w.enter.ensures in
          let both = come_on job l.i l.results c.args.totals.now (few job.site job.run c.args.count c.requires.count_value l.i c.loop-i-test.true)
          (c.current_hour-hour.result / 24) (l.kept.hour.hour / 24) l.totals _ l.kept.totals _
          (subst (λ (h : ℕ). h / 24 < days_in_year leap) (sym same) there)
          q.stored q.read came.totals_after in (
            w.kept-is ∙ came.kept_after ∙ ap₂ (λ (k : Kept) (h : ℕ). kept_at job k.totals h) (sym w.kept-is) same,
            ap₂ (λ (l : List ℕ) (k : Kept). put_kept l k.totals) w.totals-is w.kept-is ∙ both.0,
            ap (λ (k : Kept). k.totals) w.kept-is ∙ both.1 ∙ ap (λ (h : ℕ). kept_totals leap (h / 24) so_far) same,
          )
      | else-hour-kept w ↦
          let still = sym w.if-hour-kept.false ∙ same in (
            w.kept-is ∙ q.kept ∙ ap₂ (λ (k : Kept) (h : ℕ). kept_at job k.totals h) (sym w.kept-is) still,
            ap₂ (λ (l : List ℕ) (k : Kept). put_kept l k.totals) w.totals-is w.kept-is ∙ q.stored,
            ap (λ (k : Kept). k.totals) w.kept-is ∙ q.read ∙ ap (λ (h : ℕ). kept_totals leap (h / 24) so_far) still,
          )
    ]

pub step_at-answer-requires : goal.step_at-answer-requires
step_at-answer-requires c = start_day_lem c.args.job.now.site (subst T (sym c.requires.site_value) tt)

pub store-requires : goal.store-requires
store-requires c =
    let a = c.args in
    let site = a.job.now.site in
    let q = c.requires in
    let l = c.loop-i in
    let now = kept_now (goal.at.store-requires c).Joined-hour-kept in
    has_records (leap_year_of site) _ _ _ _ now.2 (hour_there site a.job.now.run a.count q.count_value l.i c.loop-i-test.true q.run_value l.time l.invariant.time)
    (wide site a.totals.now c.if-hour-kept.totals q.site_in_bounds (c.if-hour-kept.auto.totals ∙ l.auto.totals))

pub returns-in-Err : goal.returns-in-Err
unfolding reading_at index_at rows_stored
returns-in-Err c =
    let a = c.args in
    let job = job_lent a.job.now in
    let l = c.loop-i in
    let now = kept_now (goal.at.returns-in-Err c).Joined-hour-kept in
    let here = sym (step_by_kept job l.time _ c.if-hour-kept.kept _ _ now.0 c.fixed_of.ensures c.step_at-answer.ensures) ∙ c.in-Err.is in record {
      results_after = refused_here job a.count l.i l.time l.sum l.results _ here c.loop-i-test.true
          ∙ l.invariant.run;
      totals_after = c.store.ensures ∙ now.1;
    }

pub store_row-requires : goal.store_row-requires
store_row-requires c = few c.args.job.now.site c.args.job.now.run c.args.count c.requires.count_value _ c.loop-i-test.true

-- what is kept of the step's own day and month
known_now : (c : Joined-hour-kept)
    → let l = c.loop-i in
    let job = job_lent c.args.job.now in
    let leap = leap_year_of job.site in
    c.if-hour-kept.kept.totals ≡ kept_totals leap (day_of_step job.run l.i) (with_totals leap job.run l.results l.i c.args.totals.now)
known_now c =
    let l = c.loop-i in
    let job = job_lent c.args.job.now in
    let leap = leap_year_of job.site in
    (kept_now c).2 ∙ ap (λ (t : Float). kept_totals leap (current_hour t / 24) (with_totals leap job.run l.results l.i c.args.totals.now)) l.invariant.time

pub add_row-requires : goal.add_row-requires
add_row-requires c =
    let a = c.args in
    let job = job_lent a.job.now in
    let l = c.loop-i in
    let on = c.loop-i-test.true in
    let is = c.requires.count_value in
    let counted = kept_counted job l.i l.results a.totals.now (few job.site job.run a.count is l.i on) c.if-hour-kept.totals _
    (known_now (goal.at.add_row-requires c).Joined-hour-kept) (day_of_lem job.site job.run a.count is l.i on c.requires.run_value) in
    record { day_bound = counted.0; month_bound = counted.1 }

next_time : (run : Run) (i : ℕ) → time_at run i ⊕ run.step ≡ time_at run (i + 1)
unfolding time_at
next_time run i = let e : i + 1 ≡ suc i = omega arith in rw e

pub loop-i-preserved : goal.loop-i-preserved
unfolding reading_at index_at
loop-i-preserved c =
    let a = c.args in
    let job = job_lent a.job.now in
    let leap = leap_year_of job.site in
    let l = c.loop-i in
    let q = l.invariant in
    let s = c.if-hour-kept in
    let row = c.in-Ok.row in
    let on = c.loop-i-test.true in
    let is = c.requires.count_value in
    let join = (goal.at.loop-i-preserved c).Joined-hour-kept in
    let now = kept_now join in
    let added = c.add_row.ensures in
    let stored = c.store_row.ensures in
    let summed = c.with_row-sum.ensures in
    let here = sym (step_by_kept job l.time _ s.kept _ _ now.0 c.fixed_of.ensures c.step_at-answer.ensures) ∙ c.in-Ok.is in
    let at-time = subst (λ (t : Float). step_at job t ≡ Ok row) q.time here in
    let kept = with_totals_lem job (current_hour l.time) _ s.kept now.0 c.add_row.new.self in
    let hour = hour_number job (current_hour l.time) _ _ kept in
    let less = few job.site job.run a.count is l.i on in
    let there = day_of_lem job.site job.run a.count is l.i on c.requires.run_value in
    let fits = wide job.site a.totals.now s.totals c.requires.site_in_bounds (s.auto.totals ∙ l.auto.totals) in
    let space = room a.count l.i a.results.now l.results on c.requires.count_bound l.auto.results in record {
      kept = of_its_hour job (current_hour l.time) _ _ kept;
      time = ap (λ (t : Float). t ⊕ job.run.step) q.time ∙ next_time job.run l.i;
      run = (λ x. run_from (a.count - (l.i + 1)) job (l.i + 1) (l.time ⊕ job.run.step) (summed x) (stored x))
          ∙ row_next job a.count l.i l.time l.sum l.results row here on
          ∙ q.run;
      stored = totals_next job l.i l.results a.totals.now less s.totals _ (known_now join) there now.1 fits space row _ _ at-time added stored;
      read = kept_next job l.i l.results a.totals.now less s.totals _ (known_now join) there now.1 fits space row _ _ at-time added stored _ (hour ∙ ap current_hour q.time);
      day = subst (λ (h : ℕ). h / 24 < days_in_year leap) (sym (hour ∙ ap current_hour q.time)) there;
    }

pub store-requires-2 : goal.store-requires-2
store-requires-2 c =
    let site = c.args.job.now.site in
    let l = c.loop-i in
    has_records (leap_year_of site) _ _ _ _ l.invariant.read l.invariant.day (wide site c.args.totals.now l.totals c.requires.site_in_bounds l.auto.totals)

pub returns : goal.returns
unfolding rows_stored
returns c =
    let a = c.args in
    let job = job_lent a.job.now in
    let l = c.loop-i in
    let done : l.i ≡ a.count = omega arith in record {
      results_after = at_end job a.count l.i l.time l.sum l.results done ∙ l.invariant.run;
      totals_after = c.store-2.ensures ∙ l.invariant.stored
          ∙ ap (λ (n : ℕ). with_totals (leap_year_of job.site) job.run l.results n a.totals.now) done;
    }
