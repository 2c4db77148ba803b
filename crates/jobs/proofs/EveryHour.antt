-- Every hour has numbers: the claims of specs/Numbers.antt, proved, and that they hold at every step of an accepted job. Assumes nothing.
use mathlib.Core.Bool.{Bool}
use Prim.Native.Nat.{ℕ, ◌+◌, ◌/◌, ◌<◌}
use native.Mathlib.Omega.{arith}
use lib.Dec.{T, eqb}
use lib.Ieee.{Float, neg, le, sub, is_nan}
use Rattle.doubles.specs.Arithmetic.{◌⊖◌, whole}
use Rattle.doubles.specs.Order.{InRange, Bounded, Number, Finite}
use Rattle.doubles.proofs.Intervals.{in_number, in_finite, bounded_finite, own_range, bounded, sub_in}
use Rattle.days.specs.Day.{day_of}
use Rattle.days.proofs.Range.{radiation_in}
use Rattle.orientation.specs.Orientation.{orientation180}
use Rattle.sun.specs.declared.site.Site.{Site}
use Rattle.sun.specs.Site.{site_fine}
use Rattle.sun.specs.Hour.{sin_cos_of, hour_of}
use Rattle.sun.proofs.UnitRange.{UnitRange, unit_range}
use Rattle.sun.proofs.ByAltitude.{far_azimuth}
use Rattle.sun.proofs.Range.{latitude_unit, declination_unit, sun_range}
use Rattle.irradiance.specs.declared.parts.Irradiance.{Irradiance}
use Rattle.irradiance.proofs.Range.{incidence_range}
use Rattle.irradiance.proofs.FiniteParts.{IrradianceRange, irradiance_range}
use Rattle.simulation_time.specs.Timestep.{current_hour}
use Rattle.simulation_time.specs.Steps.{step_count, time_at}
use Rattle.objects.specs.declared.surface.Surface.{Surface}
use Rattle.objects.specs.Surface.{surface_fine}
use Rattle.object_checks.proofs.Accepted.{tilt_range, orientation_range}
use Rattle.jobs.specs.Job.{Job, reading_at}
use Rattle.jobs.specs.Numbers.{incidence_in, AnglesInRange, EveryHour, FiniteIrradiance, EveryReading}
use Rattle.jobs.specs.Step.{sun_at, irradiance_at}
use Rattle.jobs.proofs.PassedChecks.{Passed, accepted_reading, reading_fine_lem, hour_below}

tilt_unit : (s : Surface) → T (surface_fine s) → UnitRange (sin_cos_of s.tilt)
unfolding whole neg le
tilt_unit s t =
    let wide : Bounded (whole 1000) s.tilt = bounded (tilt_range s t) tt in
    unit_range wide

facing_unit : (s : Surface) → T (surface_fine s) → UnitRange (sin_cos_of (orientation180 s.orientation))
unfolding orientation180 whole neg sub le is_nan
facing_unit s t =
    let south : InRange (whole 180) (whole 180) (whole 180) = own_range (record { holds = tt }) in
    let turned : InRange (neg (whole 180)) (whole 180) (whole 180 ⊖ s.orientation) = sub_in south (orientation_range s t) tt in
    let wide : Bounded (whole 1000) (whole 180 ⊖ s.orientation) = bounded turned tt in
    unit_range wide

azimuth_finite : {x : Float} → Bounded far_azimuth x → Finite x
unfolding whole
azimuth_finite r = bounded_finite (record { holds = tt }) r

pub every_hour : EveryHour
every_hour site surface t s hour h =
    let sun = sun_range site t hour h in
    record {
      altitude = sun.altitude;
      azimuth = azimuth_finite sun.azimuth;
      incidence = incidence_range (latitude_unit site t hour h) (declination_unit site t hour h) (tilt_unit surface s) (facing_unit surface s) sun.hour_angle_lem;
    }

-- in the specification's words, whose premise is not needed
pub incidence_number : (site : Site) (surface : Surface) → T (site_fine site) → T (surface_fine surface) → (hour : ℕ) → hour < 8784
    → Number (hour_of site hour).altitude → Number (incidence_in site surface hour)
incidence_number site surface t s hour h n = in_number (every_hour site surface t s hour h).incidence

-- ---- the irradiance

finite_parts : {parts : Irradiance} → IrradianceRange parts → FiniteIrradiance parts
unfolding whole
finite_parts r = record {
  direct = in_finite (record { holds = tt }) (record { holds = tt }) r.direct;
  direct_from = r.direct.from;
  diffuse = bounded_finite (record { holds = tt }) r.diffuse;
  total = bounded_finite (record { holds = tt }) r.total;
  sky = bounded_finite (record { holds = tt }) r.sky;
  circumsolar = in_finite (record { holds = tt }) (record { holds = tt }) r.circumsolar;
  horizontal = bounded_finite (record { holds = tt }) r.horizontal;
  from_ground = bounded_finite (record { holds = tt }) r.from_ground;
}

pub every_reading : EveryReading
unfolding irradiance_at sun_at day_of
every_reading site surface t s time h reading f =
    let hour = current_hour time in
    let r = accepted_reading reading f in
    finite_parts
    (irradiance_range (latitude_unit site t hour h) (declination_unit site t hour h) (tilt_unit surface s) (facing_unit surface s) (sun_range site t hour h)
    (eqb site.direct_beam_conversion 1) (radiation_in (hour / 24 + 1) (omega arith)) r.diffuse r.direct r.reflectivity)

-- ---- the steps of an accepted job

module _ {job : Job} {room : Bool} (p : Passed job room) (i : ℕ) (h : i < step_count job.run) where
  pub step_angles : AnglesInRange job.site job.surface (current_hour (time_at job.run i))
  step_angles = every_hour job.site job.surface p.site_fine_lem p.surface_fine_lem (current_hour (time_at job.run i)) (hour_below p i h)

  pub step_irradiance : FiniteIrradiance (irradiance_at job.site job.surface (time_at job.run i) (reading_at job (time_at job.run i)))
  step_irradiance =
      every_reading job.site job.surface p.site_fine_lem p.surface_fine_lem (time_at job.run i) (hour_below p i h)
      (reading_at job (time_at job.run i)) (reading_fine_lem p i h)
