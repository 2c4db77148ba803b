-- What a single-step call that passes its checks has.
use Rattle.std.specs.Prelude.{Err, Ok, Result}
use mathlib.Core.Path.{◌≡◌, refl, sym, subst, ap}
use mathlib.Core.Bool.{Bool, true, false, cond, ◌&&◌}
use mathlib.Core.List.{List}
use Prim.Native.Nat.{ℕ, ◌<◌}
use lib.Dec.{T}
use lib.Ieee.{Float}
use lib.Ieee.Bits.{is_true}
use lib.Ieee.Fits.{and_l, and_r}
use Rattle.weather.specs.declared.Reading.{Reading}
use Rattle.sun.specs.declared.site.Site.{Site}
use Rattle.sun.specs.Site.{site_fine, leaf_days_fine}
use Rattle.objects.specs.declared.surface.Surface.{Surface}
use Rattle.objects.specs.declared.answers.Refusal.{Refusal}
use Rattle.objects.specs.declared.answers.Refusal.TheVariants as refusal
use Rattle.fins.specs.Fins.{edition_fine}
use Rattle.objects.specs.Surface.{surface_fine}
use Rattle.object_checks.specs.Checks.{sectors_fine, window_fine}
use Rattle.single_steps.specs.Single.{time_fine, setting_checked, values_checked, step_checked, called, stored_step, unless_refused, step_call}
use Rattle.jobs.specs.JobChecks.{tried}
use Rattle.jobs.specs.Job.{Job, reading_at}
use Rattle.jobs.specs.Step.{step_at}
use Rattle.jobs.specs.Rows.{put_row}
use Rattle.jobs.specs.Run.{Lent, rows_stored, run_of}
use Rattle.simulation_time.specs.Steps.{time_at}
use Rattle.jobs.proofs.RowStores.{Holding}
use Rattle.jobs.proofs.RunLaws.{row_at, run_rows}

is_accepted : Result (Unit {0}) Refusal → Bool
is_accepted (Ok _) = true
is_accepted (Err r) = false

-- ---- the checks of the setting: where they turn a call down nothing else counts, and else what comes next does

module _ (site : Site) (time : Float) (surface : Surface) (next : Result (Unit {0}) Refusal) where
  abbrev tests : Bool → Bool → Bool → Bool → Result (Unit {0}) Refusal → Result (Unit {0}) Refusal
  tests b c d e last = cond b (cond c (cond d (cond e last (Err refusal.Surface)) (Err refusal.Run)) (Err refusal.LeafDay)) (Err refusal.Site)

  no : {A : Type 0} {r : Refusal} {u : Unit {0}} → ◌≡◌ {A = Result (Unit {0}) Refusal} (Err r) (Ok u) → A
  unfolding is_accepted
  no e = absurd (subst T (sym (ap is_accepted e)) tt)

  pub setting_passed : {u : Unit {0}} → setting_checked site time surface (Ok tt) ≡ Ok u → setting_checked site time surface next ≡ next
  unfolding setting_checked tried
  setting_passed {u} h = go (site_fine site) (leaf_days_fine site) (time_fine site time) (surface_fine surface) h
    where
      go : (b c d e : Bool) → tests b c d e (Ok tt) ≡ Ok u → tests b c d e next ≡ next
      go true true true true h = refl
      go true true true false h = no h
      go true true false e h = no h
      go true false d e h = no h
      go false c d e h = no h

  -- what comes next has passed where all has
  setting_through : setting_checked site time surface next ≡ Ok tt → next ≡ Ok tt
  unfolding setting_checked tried
  setting_through h = go (site_fine site) (leaf_days_fine site) (time_fine site time) (surface_fine surface) h
    where
      go : (b c d e : Bool) → tests b c d e next ≡ Ok tt → next ≡ Ok tt
      go true true true true h = h
      go true true true false h = no h
      go true true false e h = no h
      go true false d e h = no h
      go false c d e h = no h

  pub setting_refused : {r : Refusal} → setting_checked site time surface (Ok tt) ≡ Err r → setting_checked site time surface next ≡ Err r
  unfolding setting_checked tried
  setting_refused {r} h = go (site_fine site) (leaf_days_fine site) (time_fine site time) (surface_fine surface) h
    where
      go : (b c d e : Bool) → tests b c d e (Ok tt) ≡ Err r → tests b c d e next ≡ Err r
      go true true true true h = no (sym h)
      go true true true false h = h
      go true true false e h = h
      go true false d e h = h
      go false c d e h = h

-- ---- the checks of a step

passes : (fine : Bool) (r : Refusal) (next : Result (Unit {0}) Refusal) → tried Err fine r next ≡ Ok tt → (fine ≡ true) × (next ≡ Ok tt)
unfolding tried
passes true r next e = (refl, e)
passes false r next e = cc

-- the lists are fine
pub lists_passed : (edition : ℕ) (site : Site) (time : Float) (surface : Surface) (reading : Reading) (summer winter window results : List ℕ)
    → step_checked edition site time surface reading summer winter window results ≡ Ok tt
    → (sectors_fine summer ≡ true) × ((sectors_fine winter ≡ true) × (window_fine window ≡ true))
unfolding step_checked
lists_passed edition site time surface reading summer winter window results e =
    let sectors : Bool = sectors_fine summer && sectors_fine winter in
    let values : Result (Unit {0}) Refusal = values_checked reading 6 results in
    let shaded : Result (Unit {0}) Refusal = tried Err (sectors && window_fine window) refusal.Object values in
    let set = (passes (edition_fine edition) refusal.Edition (setting_checked site time surface shaded) e).1 in
    let both = (passes (sectors && window_fine window) refusal.Object values (setting_through site time surface shaded set)).0 in
    let t : T (sectors && window_fine window) = subst T (sym both) tt in
    let u : T sectors = and_l sectors (window_fine window) t in (
      is_true (sectors_fine summer) (and_l (sectors_fine summer) (sectors_fine winter) u),
      (is_true (sectors_fine winter) (and_r (sectors_fine summer) (sectors_fine winter) u), is_true (window_fine window) (and_r sectors (window_fine window) t)),
    )

-- A single-step call that is given what a run reads at a step, and passes its checks, stores the row that the run holds there.
pub record RunsRow (job : Job) (r : Lent) (s : List ℕ) (i : ℕ) : Type 0 where
  pub held : Holding (run_of job r).ran.results i (row_at job i)
  pub stored : step_call job.edition job.site (time_at job.run i) job.surface (reading_at job (time_at job.run i)) job.summer job.winter job.window s
      ≡ called (Ok tt) (put_row s 0 (row_at job i))

pub runs_row : (job : Job) (r : Lent) (s : List ℕ) (i : ℕ) → i < rows_stored (run_of job r).ran.answer
    → step_checked job.edition job.site (time_at job.run i) job.surface (reading_at job (time_at job.run i)) job.summer job.winter job.window s ≡ Ok tt
    → RunsRow job r s i
unfolding step_call unless_refused stored_step step_at
runs_row job r s i h e = let p = run_rows job r i h in record { held = p.held; stored = rw (e, p.has_row) refl }
