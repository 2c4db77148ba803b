-- A run goes on from a step by its row, ends at a refused one, and ends with the last; here over a loop that counts up to `count`.
use Rattle.std.specs.Prelude.{Err, Ok, Result}
use Rattle.jobs.specs.declared.answers.Accepted.{Accepted}
use Rattle.jobs.specs.declared.answers.RefusedAt.{RefusedAt}
use Rattle.jobs.specs.Run.{accepted, refused_at}
use Rattle.std.proofs.Common.{◌≡◌, ℕ, suc, ◌+◌, ◌-◌, ◌*◌, ◌/◌, ◌≤◌, ◌<◌, Bool, true, false, List, length, eqb, refl, sym, ap, ◌∙◌, subst, arith}
use mathlib.Core.Path.{ap₂}
use Rattle.std.proofs.lemmas.Bool.{eqb-true}
use lib.Ieee.{Float}
use Rattle.doubles.specs.Arithmetic.{◌⊕◌, whole}
use Rattle.words.specs.Words.{word_count}
use Rattle.calendar.specs.Calendar.{days_in_year}
use Rattle.sun.specs.Site.{leap_year_of}
use Rattle.simulation_time.specs.declared.run.Run.{Run}
use Rattle.simulation_time.specs.Steps.{time_at}
use Rattle.simulation_time.specs.Timestep.{current_hour}
use Rattle.objects.specs.declared.answers.Refusal.{Refusal}
use Rattle.jobs.specs.declared.answers.Row.{Row}
use Rattle.jobs.specs.Job.{Job}
use Rattle.jobs.specs.Step.{step_at}
use Rattle.jobs.specs.Rows.{put_row, with_row}
use Rattle.jobs.specs.Totals.{day_of_step, totals_count, month_part, totals_at, with_totals}
use Rattle.jobs.specs.Run.{Ran, ran, rows_stored, run_from}
use Rattle.jobs.proofs.RowStores.{RowFits}
use Rattle.jobs.proofs.StepRows.{step_row, row_fits}
use Rattle.jobs.proofs.RunLaws.{run_ended, run_refused, run_onward}
use Rattle.jobs.proofs.TotalsLaws.{month_from, month_to, month_few, day_to, day_few}
use Rattle.totals.specs.declared.KeptTotals.{KeptTotals}
use Rattle.totals.specs.Kept.{emptied, parts_of, kept_totals, with_row_added, HasRecords, put_kept}
use Rattle.runs.specs.Kept.{come_to}
use Rattle.totals.proofs.Kept.{few_added, kept_over, kept_stored, kept_added, row_added, over_emptied}

-- ---- from step to step

module _ (job : Job) (count i : ℕ) (time sum : Float) (results : List ℕ) where
  one_left : i < count → count - i ≡ suc (count - (i + 1))
  one_left h = omega (arith, h)

  pub row_next : (row : Row) → step_at job time ≡ Ok row → i < count
      → run_from (count - (i + 1)) job (i + 1) (time ⊕ job.run.step) (with_row job.run.step sum row) (put_row results i row) ≡ run_from (count - i) job i time sum results
  row_next row e h = rw (one_left h) (sym (run_onward job i time sum results (count - (i + 1)) row e))

  pub refused_here : (r : Refusal) → step_at job time ≡ Err r → i < count → ran (refused_at r i) results ≡ run_from (count - i) job i time sum results
  refused_here r e h = rw (one_left h) (sym (run_refused job i time sum results (count - (i + 1)) r e))

  pub at_end : i ≡ count → ran (accepted count sum) results ≡ run_from (count - i) job i time sum results
  at_end e = let z : count - i ≡ 0 = omega (arith, e) in rw (z, ← e) (sym (run_ended job i time sum results))

pub at_start : (job : Job) (count : ℕ) (results : List ℕ) → run_from (count - 0) job 0 job.run.start (whole 0) results ≡ run_from count job 0 job.run.start (whole 0) results
at_start job count results = let z : count - 0 ≡ count = omega arith in ap (λ (n : ℕ). run_from n job 0 job.run.start (whole 0) results) z

-- ---- the totals: those of the day and the month are kept by value, and stored where the day changes and at the end

-- the list has the records of a day of the year
pub has_records : (leap : Bool) (day : ℕ) (l totals : List ℕ) (kept : KeptTotals) → kept ≡ kept_totals leap day l → day < days_in_year leap
    → 24 * totals_count leap ≤ length totals → HasRecords totals kept.parts
has_records leap day l totals kept e there fits = subst (λ (k : KeptTotals). HasRecords totals k.parts) (sym e) records
  where
    month_below : month_part leap day < totals_count leap
    month_below = month_to leap day there

    day_below : day < totals_count leap
    day_below = day_to leap day there

    records : HasRecords totals (kept_totals leap day l).parts
    records = unfold kept_totals parts_of in record {
      day_of_year = day_few leap day there;
      month_of_year = month_few leap day there;
      day_there = omega (arith, fits, day_below);
      month_there = omega (arith, fits, month_below);
    }

module _ (job : Job) (i : ℕ) (results totals₀ : List ℕ) (few : i < 35137) where
  abbrev leap : Bool
  leap = leap_year_of job.site

  abbrev so_far : List ℕ
  so_far = with_totals leap job.run results i totals₀

  -- another day: what was kept is stored, and what the list has of that day is kept
  pub new_day : (day : ℕ) (totals totals' : List ℕ) (old new : KeptTotals) → day < days_in_year leap → put_kept totals old ≡ so_far
      → totals' ≡ put_kept totals old → new ≡ kept_totals leap day totals' → (put_kept totals' new ≡ so_far) × (new ≡ kept_totals leap day so_far)
  new_day day totals totals' old new there kept stored read =
      let same : totals' ≡ so_far = stored ∙ kept in
      let known : new ≡ kept_totals leap day so_far = read ∙ ap (kept_totals leap day) same in
      (ap₂ put_kept same known ∙ kept_stored leap job.run results totals₀ i day few there, known)

  -- whether it is another day or the same
  pub come_on : (day today : ℕ) (totals totals' : List ℕ) (old new : KeptTotals) → day < days_in_year leap → put_kept totals old ≡ so_far
      → old ≡ kept_totals leap today so_far → ◌≡◌ {A = List ℕ × KeptTotals} (totals', new) (come_to leap (eqb day today) day totals old)
      → (put_kept totals' new ≡ so_far) × (new ≡ kept_totals leap day so_far)
  unfolding come_to
  come_on day today totals totals' old new there kept known = go (eqb day today) refl
    where
      go : (b : Bool) → eqb day today ≡ b → ◌≡◌ {A = List ℕ × KeptTotals} (totals', new) (come_to leap b day totals old)
          → (put_kept totals' new ≡ so_far) × (new ≡ kept_totals leap day so_far)
      go true e came =
          let same : day ≡ today = eqb-true day today e in
          (ap (λ p. put_kept p.0 p.1) came ∙ kept, ap (λ p. p.1) came ∙ known ∙ ap (λ (d : ℕ). kept_totals leap d so_far) (sym same))
      go false e came = new_day day totals totals' old new there kept (ap (λ p. p.0) came) (ap (λ p. p.1) came ∙ ap (kept_totals leap day) (sym (ap (λ p. p.0) came)))

  -- a step of the day whose totals are kept
  module _ (totals : List ℕ) (old : KeptTotals) (known : old ≡ kept_totals leap (day_of_step job.run i) so_far)
      (there : day_of_step job.run i < days_in_year leap) where
    abbrev day : ℕ
    day = day_of_step job.run i

    few_counted : (k : ℕ) → k < totals_count leap → (totals_at so_far k).count < 35137
    few_counted k h = few_added leap job.run results totals₀ i k few h

    pub kept_counted : (old.day.count < 35137) × (old.month.count < 35137)
    kept_counted = subst (λ (k : KeptTotals). (k.day.count < 35137) × (k.month.count < 35137)) (sym known) counted
      where
        counted : ((kept_totals leap (day_of_step job.run i) so_far).day.count < 35137) × ((kept_totals leap (day_of_step job.run i) so_far).month.count < 35137)
        counted = unfold kept_totals in (few_counted day (day_to leap day there), few_counted (month_part leap day) (month_to leap day there))

    module _ (kept : put_kept totals old ≡ so_far) (fits : 24 * totals_count leap ≤ length totals) (room : 6 * i + 6 ≤ word_count results)
        (row : Row) (new : KeptTotals) (results' : List ℕ) (here : step_at job (time_at job.run i) ≡ Ok row)
        (added : new ≡ with_row_added job.run.step row old) (put : results' ≡ put_row results i row) where
      row_fit : RowFits row
      row_fit = row_fits (step_row job (time_at job.run i) row here)

      abbrev with_row_lem : List ℕ
      with_row_lem = with_totals leap job.run results' (i + 1) totals₀

      next : with_totals leap job.run (put_row results i row) (suc i) totals₀ ≡ with_row_lem
      next = let one : suc i ≡ i + 1 = omega arith in ap₂ (λ (l : List ℕ) (n : ℕ). with_totals leap job.run l n totals₀) (sym put) one

      same_parts : old.parts ≡ new.parts
      unfolding with_row_added
      same_parts = ap (λ (k : KeptTotals). k.parts) (sym added)

      day_first : old.parts.day < old.parts.month
      unfolding kept_totals parts_of
      day_first = subst (λ (k : KeptTotals). k.parts.day < k.parts.month) (sym known) (omega (arith, there, month_from leap day there))

      pub totals_next : put_kept totals new ≡ with_row_lem
      totals_next =
          sym (kept_over totals old new same_parts day_first (has_records leap day so_far totals old known there fits).month_there)
          ∙ ap₂ put_kept kept (added ∙ ap (with_row_added job.run.step row) known)
          ∙ row_added leap job.run results totals₀ i row room row_fit few there ∙ next

      pub kept_next : (hour : ℕ) → hour ≡ current_hour (time_at job.run i) → new ≡ kept_totals leap (hour / 24) with_row_lem
      kept_next hour h =
          added ∙ ap (with_row_added job.run.step row) known ∙ kept_added leap job.run results totals₀ i row room row_fit few there
          ∙ ap₂ (λ (n : ℕ) (l : List ℕ). kept_totals leap (n / 24) l) (sym h) next

-- the totals of a run whose list was emptied before
pub totals_done : (leap : Bool) (run : Run) (totals₀ totals totals' results' : List ℕ) (answer : Result Accepted RefusedAt) (done : Ran)
    → totals ≡ emptied leap totals₀ → totals' ≡ with_totals leap run results' (rows_stored answer) totals → ran answer results' ≡ done
    → totals' ≡ with_totals leap run done.results (rows_stored done.answer) totals₀
totals_done leap run totals₀ totals totals' results' answer done e t r =
    t ∙ ap (with_totals leap run results' (rows_stored answer)) e ∙ over_emptied leap run results' (rows_stored answer) totals₀
    ∙ ap (λ (x : Ran). with_totals leap run x.results (rows_stored x.answer) totals₀) r
