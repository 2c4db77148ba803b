-- One step: the sun in its hour, the irradiance by the series' values, and the factor, by the sectors of its day.
use Rattle.std.specs.Prelude.{List, ℕ, ◌+◌, ◌/◌, eqb, Float, Err, Ok, Result}
use Rattle.objects.specs.declared.answers.Refusal.{Refusal}
use Rattle.jobs.specs.declared.answers.Row.{Row}
use Rattle.sun.specs.declared.site.Site.{Site}
use Rattle.sun.specs.declared.hour.Hour.{Hour}
use Rattle.days.specs.declared.Day.{Day}
use Rattle.days.specs.Day.{day_of}
use Rattle.sun.specs.Hour.{sin_cos_of, hour_of}
use Rattle.orientation.specs.Orientation.{orientation180}
use Rattle.irradiance.specs.declared.parts.Irradiance.{Irradiance}
use Rattle.irradiance.specs.Sky.{sky_of}
use Rattle.irradiance.specs.Surface.{incidence_of}
use Rattle.irradiance.specs.Parts.{irradiance_of}
use Rattle.simulation_time.specs.Timestep.{current_hour}
use Rattle.objects.specs.declared.surface.Surface.{Surface}
use Rattle.seasons.specs.Seasons.{sectors_for}
use Rattle.shading.specs.Factor.{shading_factor}
use Rattle.objects.specs.Records.{sectors_of, window_objects_of}
use Rattle.weather.specs.declared.Reading.{Reading}
use Rattle.jobs.specs.Job.{Job, reading_at}

-- the sun at a time: that of its hour
unfoldable pub sun_at : Site → Float → Hour
sun_at site time = hour_of site (current_hour time)

-- the irradiance on the surface, by a day's values and the sun
unfoldable pub irradiance_by_day : Site → Surface → Day → Hour → Reading → Irradiance
irradiance_by_day site surface day sun reading =
    let tilt = sin_cos_of surface.tilt in
    let sky = sky_of (eqb site.direct_beam_conversion 1) sun day.extra_terrestrial_radiation reading.diffuse reading.direct in
    let facing = sin_cos_of (orientation180 surface.orientation) in
    let incidence = incidence_of (sin_cos_of site.latitude) (sin_cos_of day.declination) tilt facing sun in
    irradiance_of tilt incidence sky sun.sin_altitude reading.reflectivity

-- that at a time
unfoldable pub irradiance_at : Site → Surface → Float → Reading → Irradiance
unfolding irradiance_by_day
irradiance_at site surface time reading = irradiance_by_day site surface (day_of (current_hour time / 24 + 1)) (sun_at site time) reading

-- the sectors at a time: of two lists the one for its day, which counts from 0
unfoldable pub sectors_at : Site → List ℕ → List ℕ → Float → List ℕ
sectors_at site summer winter time = sectors_for summer winter site.first_leaf_day site.last_leaf_day (current_hour time / 24)

abbrev pub job_sectors : Job → Float → List ℕ
job_sectors job time = sectors_at job.site job.summer job.winter time

-- the factor by an edition, of lists of bytes
unfoldable pub shading_at : ℕ → Surface → Hour → List ℕ → List ℕ → Result Float Refusal
shading_at edition surface sun sectors window = shading_factor edition surface sun.altitude sun.azimuth (sectors_of sectors) (window_objects_of window)

-- a step has a row where it has a factor
unfoldable pub row_with : Hour → Irradiance → Result Float Refusal → Result Row Refusal
row_with sun parts (Ok f) = Ok (record {
  altitude = sun.altitude;
  azimuth = sun.azimuth;
  direct = parts.direct;
  diffuse = parts.diffuse;
  total = parts.total;
  factor = f;
})
row_with sun parts (Err r) = Err r

-- the step at a time, the sectors of its day and the values of its series being given
unfoldable pub step_with : ℕ → Site → Surface → List ℕ → List ℕ → Float → Reading → Result Row Refusal
step_with edition site surface sectors window time reading =
    row_with (sun_at site time) (irradiance_at site surface time reading) (shading_at edition surface (sun_at site time) sectors window)

-- a job's step at a time
unfoldable pub step_at : Job → Float → Result Row Refusal
step_at job time = step_with job.edition job.site job.surface (job_sectors job time) job.window time (reading_at job time)
