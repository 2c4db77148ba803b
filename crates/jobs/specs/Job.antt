-- A job: one call of the run, with what goes in. The series, the sectors of summer and winter and the window objects are lists of bytes,
-- as they were lent.
use Rattle.std.specs.Prelude.{List, ℕ, Float}
use Rattle.sun.specs.declared.site.Site.{Site}
use Rattle.simulation_time.specs.declared.run.Run.{Run}
use Rattle.simulation_time.specs.Timestep.{series_index}
use Rattle.objects.specs.declared.surface.Surface.{Surface}
use Rattle.weather.specs.declared.Reading.{Reading}
use Rattle.weather.specs.Weather.{read_series}

pub record Job : Type 0 where
  pub edition : ℕ
  pub site : Site
  pub run : Run
  pub surface : Surface
  pub diffuse : List ℕ
  pub direct : List ℕ
  pub reflectivity : List ℕ
  pub summer : List ℕ
  pub winter : List ℕ
  pub window : List ℕ

abbrev pub job_of : ℕ → Site → Run → Surface → List ℕ → List ℕ → List ℕ → List ℕ → List ℕ → List ℕ → Job
job_of edition site run surface diffuse direct reflectivity summer winter window = record {
  edition = edition;
  site = site;
  run = run;
  surface = surface;
  diffuse = diffuse;
  direct = direct;
  reflectivity = reflectivity;
  summer = summer;
  winter = winter;
  window = window;
}

-- where the series are read at a time: at one index for all three
unfoldable pub index_at : Job → Float → ℕ
index_at job time = series_index time job.site.start_day job.site.time_series_step

unfoldable pub reading_at : Job → Float → Reading
reading_at job time = read_series job.diffuse job.direct job.reflectivity (index_at job time)
