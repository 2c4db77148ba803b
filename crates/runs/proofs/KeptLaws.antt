-- What a run keeps is that of its hour, whichever way it came there.
use Rattle.std.specs.Prelude.{Float, Result}
use Rattle.objects.specs.declared.answers.Refusal.{Refusal}
use Rattle.jobs.specs.declared.answers.Row.{Row}
use Rattle.std.proofs.Common.{◌≡◌, ℕ, ◌/◌, Bool, true, List, take, eqb, refl, sym, ap, ◌∙◌, subst}
use mathlib.Core.Path.{ap₂}
use borrow.Author.Tests.{eq-eqb, ne_eqb}
use lib.Dec.{T}
use lib.Ieee.{Float}
use Rattle.simulation_time.specs.Timestep.{current_hour}
use Rattle.objects.specs.declared.window.WindowShadingObject.{WindowShadingObject}
use Rattle.objects.specs.Records.{window_objects_of}
use Rattle.object_checks.specs.Checks.{sectors_fine}
use Rattle.seasons.specs.declared.table.SeasonTable.{SeasonTable}
use Rattle.seasons.specs.Seasons.{sectors_for, in_leaf}
use Rattle.seasons.proofs.Parts.{kept_sectors}
use Rattle.shading.specs.Factor.{shading_factor}
use Rattle.steps.specs.declared.kept.Fixed.{Fixed}
use Rattle.steps.specs.declared.kept.KeptDay.{KeptDay}
use Rattle.steps.specs.declared.kept.KeptHour.{KeptHour}
use Rattle.steps.specs.Kept.{fixed_of, kept_day, kept_hour, step_kept}
use Rattle.steps.proofs.StepKept.{kept_factor, by_kept, its_hour, its_index}
use Rattle.jobs.specs.Job.{Job, reading_at}
use Rattle.jobs.specs.Step.{sectors_at, job_sectors, step_at}
use Rattle.totals.specs.declared.KeptTotals.{KeptTotals}
use Rattle.totals.specs.Kept.{kept_totals, put_kept}
use Rattle.runs.specs.declared.kept.Kept.{Kept}
use Rattle.seasons.specs.Table.{season_table}
use Rattle.runs.specs.declared.kept.Setting.{Setting}
use Rattle.runs.specs.Asked.{job_lent}
use Rattle.runs.specs.Kept.{Ready, day_table, hour_factor, kept_at, come_to}

-- ---- the lists of a setting are its job's

module _ (setting : Setting) (r : Ready setting) where
  pub summer_fine : sectors_fine setting.job.summer.now ≡ true
  summer_fine = subst (λ (l : List ℕ). sectors_fine l ≡ true) r.summer setting.seasons.summer.fine

  pub winter_fine : sectors_fine setting.job.winter.now ≡ true
  winter_fine = subst (λ (l : List ℕ). sectors_fine l ≡ true) r.winter setting.seasons.winter.fine

  pub leaf_now : (day : ℕ) → in_leaf setting.seasons.first setting.seasons.last day ≡ in_leaf setting.job.site.first_leaf_day setting.job.site.last_leaf_day day
  leaf_now day = rw (r.first, r.last) refl

  pub table_now : (day : ℕ) (table : SeasonTable)
      → table ≡ season_table (in_leaf setting.seasons.first setting.seasons.last day) setting.seasons.summer.bytes.now setting.seasons.winter.bytes.now
      → table ≡ day_table (job_lent setting.job) day
  table_now day table e = rw (r.summer, r.winter, r.first, r.last) at e

-- ---- the parts, put together and taken apart

module _ (job : Job) (hour : ℕ) (s : sectors_fine job.summer ≡ true) (w : sectors_fine job.winter ≡ true) where
  pub put_together : (at : KeptHour) (day : KeptDay) (season : SeasonTable) (totals : KeptTotals) (factor : Result Float Refusal) (objects : List WindowShadingObject)
      → at ≡ kept_hour job.site job.surface hour → day ≡ kept_day (hour / 24) → season ≡ day_table job (hour / 24)
      → objects ≡ window_objects_of job.window
      → factor ≡ shading_factor job.edition job.surface at.sun.altitude at.sun.azimuth (take season.count season.places) objects
      → record { hour = at; day = day; season = season; totals = totals; factor = factor } ≡ kept_at job totals hour
  unfolding kept_at sectors_for
  put_together at day season totals factor objects h d t o f =
      let sectors = kept_sectors job.summer job.winter (subst T (sym s) tt) (subst T (sym w) tt) _ season t in
      let shade : factor ≡ hour_factor job hour = kept_factor job.site job.surface hour at h job.edition _ job.window _ _ _ sectors o f in
      λ i. record { hour = h i; day = d i; season = t i; totals = totals; factor = shade i }

module _ (job : Job) (hour : ℕ) (totals : KeptTotals) (kept : Kept) (k : kept ≡ kept_at job totals hour) where
  pub hour_kept : kept.hour ≡ kept_hour job.site job.surface hour
  unfolding kept_at
  hour_kept = ap (λ (k : Kept). k.hour) k

  pub hour_number : kept.hour.hour ≡ hour
  hour_number = its_hour job.site job.surface hour kept.hour hour_kept

  pub day_kept : kept.day ≡ kept_day (hour / 24)
  unfolding kept_at
  day_kept = ap (λ (k : Kept). k.day) k

  pub day_number : kept.day.index ≡ hour / 24
  day_number = its_index (hour / 24) kept.day day_kept

  pub season_kept : kept.season ≡ day_table job (hour / 24)
  unfolding kept_at
  season_kept = ap (λ (k : Kept). k.season) k

  pub factor_kept : kept.factor ≡ hour_factor job hour
  unfolding kept_at
  factor_kept = ap (λ (k : Kept). k.factor) k

  pub totals_of_kept : kept.totals ≡ totals
  unfolding kept_at
  totals_of_kept = ap (λ (k : Kept). k.totals) k

  -- it says of which hour and with which totals it is
  pub of_its_hour : kept ≡ kept_at job kept.totals kept.hour.hour
  of_its_hour = k ∙ ap₂ (kept_at job) (sym totals_of_kept) (sym hour_number)

  -- with other totals
  pub with_totals_lem : (new : KeptTotals) → record kept { totals = new } ≡ kept_at job new hour
  unfolding kept_at
  with_totals_lem new = ap (λ (k : Kept). record k { totals = new }) k

-- a step by what is kept of its hour is the job's
pub step_by_kept : (job : Job) (time : Float) (totals : KeptTotals) (kept : Kept) (fixed : Fixed) (answer : Result Row Refusal) → kept ≡ kept_at job totals (current_hour time)
    → fixed ≡ fixed_of job.site job.surface → answer ≡ step_kept job.site fixed kept.hour kept.factor (reading_at job time) → answer ≡ step_at job time
unfolding step_at sectors_at
step_by_kept job time totals kept fixed answer k f e =
    by_kept job.edition job.site job.surface (job_sectors job time) job.window time (reading_at job time) fixed kept.hour kept.factor answer f
    (hour_kept job (current_hour time) totals kept k) (factor_kept job (current_hour time) totals kept k) e

-- ---- the totals, where a step comes to a day

module _ (leap : Bool) (day today : ℕ) (totals totals' : List ℕ) (old new : KeptTotals) where
  pub another_day : (day ≡ today → ⊥) → totals' ≡ put_kept totals old → new ≡ kept_totals leap day totals'
      → ◌≡◌ {A = List ℕ × KeptTotals} (totals', new) (come_to leap (eqb day today) day totals old)
  unfolding come_to
  another_day n stored read = rw (ne_eqb day today n) (λ i. (stored i, (read ∙ ap (kept_totals leap day) stored) i))

  pub same_day : day ≡ today → totals' ≡ totals → new ≡ old → ◌≡◌ {A = List ℕ × KeptTotals} (totals', new) (come_to leap (eqb day today) day totals old)
  unfolding come_to
  same_day e t k = rw (eq-eqb day today e) (λ i. (t i, k i))
