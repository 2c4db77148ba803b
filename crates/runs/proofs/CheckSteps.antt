-- The checks of a job, one after the other: where one fails its refusal is the answer, and where it passes the next is tried.
use Rattle.std.specs.Prelude.{Err, Ok, Result, ℕ}
use Rattle.objects.specs.declared.answers.Refusal.{Refusal}
use mathlib.Core.Path.{◌≡◌, refl}
use mathlib.Core.Bool.{Bool, true, false, ◌&&◌}
use mathlib.Core.List.{List}
use Prim.Native.Nat.{ℕ, ◌≤◌}
use lib.Dec.{T, leb, leb→le}
use lib.IntN.{pos, neg_ℤ}
use lib.Signed.{le_z}
use lib.Ieee.{Float, neg}
use Rattle.doubles.specs.Arithmetic.{whole, decimal}
use Rattle.doubles.specs.Ranges.{within}
use lib.Ieee.Fits.{and_l, and_r}
use Rattle.sun.specs.declared.site.Site.{Site}
use Rattle.sun.specs.Site.{site_fine, leaf_days_fine, hours_in_year}
use Rattle.simulation_time.specs.declared.run.Run.{Run}
use Rattle.simulation_time.specs.Steps.{step_count, times}
use Rattle.simulation_time.specs.RunChecks.{run_accepted}
use Rattle.objects.specs.declared.answers.Refusal.TheVariants as refusal
use Rattle.fins.specs.Fins.{edition_fine}
use Rattle.objects.specs.Surface.{surface_fine}
use Rattle.object_checks.specs.Checks.{sectors_fine, window_fine}
use Rattle.jobs.specs.Job.{Job}
use Rattle.jobs.specs.JobChecks.{indices_fine, readings_fine, tried, series_checked, checked}

module _ (day : ℕ) (step : Float) (run : Run) (diffuse direct reflectivity : List ℕ) (room : Bool) where
  abbrev pub IndicesAre : Bool → Type 0
  IndicesAre b = indices_fine day step diffuse direct reflectivity (times run) ≡ b

  abbrev pub ReadingsAre : Bool → Type 0
  ReadingsAre b = readings_fine day step diffuse direct reflectivity (times run) ≡ b

  abbrev pub Comes : Result ℕ Refusal → Type 0
  Comes answer = answer ≡ series_checked day step run diffuse direct reflectivity room

  pub series_refused : IndicesAre false → Comes (Err refusal.Series)
  unfolding series_checked tried
  series_refused e = rw e refl

  pub reading_refused : IndicesAre true → ReadingsAre false → Comes (Err refusal.Reading)
  unfolding series_checked tried
  reading_refused e f = rw (e, f) refl

  pub results_refused : IndicesAre true → ReadingsAre true → room ≡ false → Comes (Err refusal.Results)
  unfolding series_checked tried
  results_refused e f h = rw (e, f, h) refl

  pub series_passed : IndicesAre true → ReadingsAre true → room ≡ true → Comes (Ok (step_count run))
  unfolding series_checked tried
  series_passed e f h = rw (e, f, h) refl

module _ (job : Job) (room : Bool) where
  pub edition_refused : edition_fine job.edition ≡ false → Err refusal.Edition ≡ checked job room
  unfolding checked tried
  edition_refused e = rw e refl

  module _ (edition : edition_fine job.edition ≡ true) where
    pub site_refused : site_fine job.site ≡ false → Err refusal.Site ≡ checked job room
    unfolding checked tried
    site_refused e = rw (edition, e) refl

    module _ (site : site_fine job.site ≡ true) where
      pub leaf_day_refused : leaf_days_fine job.site ≡ false → Err refusal.LeafDay ≡ checked job room
      unfolding checked tried
      leaf_day_refused e = rw (edition, site, e) refl

      module _ (leaf-days : leaf_days_fine job.site ≡ true) where
        pub run_refused : run_accepted (hours_in_year job.site) job.run ≡ false → Err refusal.Run ≡ checked job room
        unfolding checked tried
        run_refused e = rw (edition, site, leaf-days, e) refl

        module _ (steps : run_accepted (hours_in_year job.site) job.run ≡ true) where
          pub surface_refused : surface_fine job.surface ≡ false → Err refusal.Surface ≡ checked job room
          unfolding checked tried
          surface_refused e = rw (edition, site, leaf-days, steps, e) refl

          module _ (surface : surface_fine job.surface ≡ true) where
            pub object_refused : sectors_fine job.summer && sectors_fine job.winter && window_fine job.window ≡ false
                → Err refusal.Object ≡ checked job room
            unfolding checked tried
            object_refused e = rw (edition, site, leaf-days, steps, surface, e) refl

            pub first_passed : sectors_fine job.summer && sectors_fine job.winter && window_fine job.window ≡ true
                → series_checked job.site.start_day job.site.time_series_step job.run job.diffuse job.direct job.reflectivity room ≡ checked job room
            unfolding checked tried
            first_passed e = rw (edition, site, leaf-days, steps, surface, e) refl

-- the start day of an accepted site
fourth : (a b c d e f g : Bool) → T (a && b && c && d && e && f && g) → T d
fourth a b c d e f g t = and_r (a && b && c) d (and_l (a && b && c && d) e (and_l (a && b && c && d && e) f (and_l (a && b && c && d && e && f) g t)))

pub start_day_lem : (site : Site) → T (site_fine site) → site.start_day ≤ 365
unfolding site_fine
start_day_lem site t =
    leb→le site.start_day 365
    (fourth (within (neg (whole 90)) (whole 90) site.latitude) (within (neg (whole 180)) (whole 180) site.longitude)
    (le_z (neg_ℤ (pos 13)) site.timezone && le_z site.timezone (pos 14)) (leb site.start_day 365)
    (within (decimal 25 2) (whole 24) site.time_series_step) (leb site.leap_year 1) (leb site.direct_beam_conversion 1) t)
