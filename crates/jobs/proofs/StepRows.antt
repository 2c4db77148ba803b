-- What a step's row has: its six doubles are those of the sun, the irradiance and the factor, and all are doubles of binary64.
-- Assumes nothing.
use Rattle.std.specs.Prelude.{Err, Float, Ok, Result}
use mathlib.Core.Path.{◌≡◌, refl, sym, ap, ◌∙◌, subst}
use mathlib.Core.Bool.{Bool, true, false, ◌&&◌}
use lib.Dec.{T}
use lib.Ieee.{Float, binary64, lt, le, fits}
use lib.Ieee.Fits.{neg-fits, add-fits, sub-fits, mul-fits}
use Rattle.doubles.specs.Arithmetic.{◌⊕◌, ◌⊘◌, whole}
use Rattle.doubles.specs.Functions.{to_degrees, pi}
use Rattle.doubles.specs.Order.{Fits}
use Rattle.doubles.proofs.MinMax.{either_fits}
use Rattle.angles.specs.declared.SinCos.{SinCos}
use Rattle.sun.specs.declared.site.Site.{Site}
use Rattle.sun.specs.declared.hour.Hour.{Hour}
use Rattle.sun.specs.Hour.{is_night, cut_altitude, solar_altitude, azimuth_branch, azimuth_from, solar_azimuth, hour_of}
use Rattle.irradiance.specs.declared.parts.Irradiance.{Irradiance}
use Rattle.irradiance.specs.Parts.{irradiance_of}
use Rattle.objects.specs.declared.answers.Refusal.{Refusal}
use Rattle.objects.specs.declared.surface.Surface.{Surface}
use Rattle.objects.specs.Records.{sectors_of, window_objects_of}
use Rattle.shading_laws.proofs.Answers.{answer_fits}
use Rattle.weather.specs.declared.Reading.{Reading}
use Rattle.jobs.specs.declared.answers.Row.{Row}
use Rattle.jobs.specs.Job.{Job, reading_at}
use Rattle.jobs.specs.Step.{sun_at, irradiance_at, job_sectors, shading_at, row_with, step_with, step_at}
use Rattle.jobs.proofs.RowStores.{RowFits}

-- ---- a step's answer is a row or a refusal

is_row : Result Row Refusal → Bool
is_row (Ok row) = true
is_row (Err r) = false

no_row : Row
no_row = record { altitude = whole 0; azimuth = whole 0; direct = whole 0; diffuse = whole 0; total = whole 0; factor = whole 0 }

-- the row of a step that has one
unfoldable pub row_of : Result Row Refusal → Row
unfolding no_row
row_of (Ok row) = row
row_of (Err r) = no_row

pub not_refused : {A : Type 0} {r : Refusal} {row : Row} → ◌≡◌ {A = Result Row Refusal} (Err r) (Ok row) → A
unfolding is_row
not_refused e = absurd (subst T (sym (ap is_row e)) tt)

pub same_row : {x y : Row} → ◌≡◌ {A = Result Row Refusal} (Ok x) (Ok y) → x ≡ y
unfolding row_of
same_row e = ap row_of e

-- ---- where its doubles come from

-- the sun, the irradiance and the factor of a job's step
pub record StepRow (job : Job) (time : Float) (row : Row) : Type 0 where
  pub altitude : row.altitude ≡ (sun_at job.site time).altitude
  pub azimuth : row.azimuth ≡ (sun_at job.site time).azimuth
  pub direct : row.direct ≡ (irradiance_at job.site job.surface time (reading_at job time)).direct
  pub diffuse : row.diffuse ≡ (irradiance_at job.site job.surface time (reading_at job time)).diffuse
  pub total : row.total ≡ (irradiance_at job.site job.surface time (reading_at job time)).total
  pub factor : shading_at job.edition job.surface (sun_at job.site time) (job_sectors job time) job.window ≡ Ok row.factor

pub step_row : (job : Job) (time : Float) (row : Row) → step_at job time ≡ Ok row → StepRow job time row
unfolding step_at step_with
step_row job time row e = go (shading_at job.edition job.surface (sun_at job.site time) (job_sectors job time) job.window) refl e
  where
    sun : Hour
    sun = sun_at job.site time

    parts : Irradiance
    parts = irradiance_at job.site job.surface time (reading_at job time)

    go : (f : Result Float Refusal) → shading_at job.edition job.surface sun (job_sectors job time) job.window ≡ f → row_with sun parts f ≡ Ok row → StepRow job time row
    go (Err r) s e = unfold row_with in not_refused e
    go (Ok f) s e = unfold row_with in let p = same_row e in record {
      altitude = sym (ap (λ (x : Row). x.altitude) p);
      azimuth = sym (ap (λ (x : Row). x.azimuth) p);
      direct = sym (ap (λ (x : Row). x.direct) p);
      diffuse = sym (ap (λ (x : Row). x.diffuse) p);
      total = sym (ap (λ (x : Row). x.total) p);
      factor = s ∙ ap Ok (ap (λ (x : Row). x.factor) p);
    }

-- ---- all six are doubles

pub zero-fits : Fits (whole 0)
unfolding whole fits
zero-fits = record { holds = tt }

degrees_fits : (x : Float) → Fits (to_degrees x)
unfolding to_degrees
degrees_fits x = record { holds = mul-fits binary64 x (whole 180 ⊘ pi) }

altitude_fits : (x : Float) → Fits (cut_altitude (to_degrees x))
unfolding cut_altitude
altitude_fits x = either_fits (is_night (to_degrees x)) zero-fits (degrees_fits x)

branch_fits : (s c : Float) {a : Float} → Fits a → Fits (azimuth_branch s c a)
unfolding azimuth_branch
branch_fits s c {a} f =
    either_fits (le (whole 0) s && lt (whole 0) c)
    (either_fits (lt (whole 180) a) (record { holds = sub-fits binary64 a (whole 180) }) (record { holds = sub-fits binary64 (whole 180) a }))
    (either_fits (lt c (whole 0)) f (record { holds = neg-fits binary64 (whole 180 ⊕ a) (add-fits binary64 (whole 180) a) }))

azimuth_fits : (l d w : SinCos) (arc denominator : Float) → Fits (azimuth_from l d w arc denominator)
unfolding azimuth_from
azimuth_fits l d w arc denominator = branch_fits _ _ (degrees_fits (arc ⊘ denominator))

module _ (site : Site) (time : Float) where
  sun_altitude_fits : Fits (sun_at site time).altitude
  unfolding sun_at hour_of solar_altitude
  sun_altitude_fits = altitude_fits _

  sun_azimuth_fits : Fits (sun_at site time).azimuth
  unfolding sun_at hour_of solar_azimuth
  sun_azimuth_fits = azimuth_fits _ _ _ _ _

  module _ (surface : Surface) (reading : Reading) where
    direct_fits : Fits (irradiance_at site surface time reading).direct
    unfolding irradiance_at irradiance_of
    direct_fits = record { holds = add-fits binary64 _ _ }

    diffuse_fits : Fits (irradiance_at site surface time reading).diffuse
    unfolding irradiance_at irradiance_of
    diffuse_fits = record { holds = add-fits binary64 _ _ }

    total_fits : Fits (irradiance_at site surface time reading).total
    unfolding irradiance_at irradiance_of
    total_fits = record { holds = add-fits binary64 _ _ }

-- every row that a step gives
module _ {job : Job} {time : Float} {row : Row} (r : StepRow job time row) where
  pub row_fits : RowFits row
  unfolding shading_at
  row_fits = record {
    altitude = subst Fits (sym r.altitude) (sun_altitude_fits job.site time);
    azimuth = subst Fits (sym r.azimuth) (sun_azimuth_fits job.site time);
    direct = subst Fits (sym r.direct) (direct_fits job.site time job.surface (reading_at job time));
    diffuse = subst Fits (sym r.diffuse) (diffuse_fits job.site time job.surface (reading_at job time));
    total = subst Fits (sym r.total) (total_fits job.site time job.surface (reading_at job time));
    factor = answer_fits job.edition job.surface (sun_at job.site time).altitude (sun_at job.site time).azimuth (sectors_of (job_sectors job time)) (window_objects_of job.window) row.factor r.factor;
  }
