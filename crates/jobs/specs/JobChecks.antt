-- The checks before the first step: the edition (refusal 14), the site (1), its leaf days (15), then 2 to 7 in number order.
use Rattle.std.specs.Prelude.{Bool, cond, ◌&&◌, List, ℕ, ◌*◌, leb, length, Float, Err, Ok, Result}
use Rattle.words.specs.Words.{word_count}
use Rattle.weather.specs.Weather.{in_series, read_series, reading_fine}
use Rattle.fins.specs.Fins.{edition_fine}
use Rattle.sun.specs.Site.{site_fine, leaf_days_fine, hours_in_year}
use Rattle.simulation_time.specs.declared.run.Run.{Run}
use Rattle.simulation_time.specs.Steps.{step_count, times, at_all}
use Rattle.simulation_time.specs.Timestep.{series_index}
use Rattle.simulation_time.specs.RunChecks.{run_accepted}
use Rattle.objects.specs.declared.answers.Refusal.{Refusal}
use Rattle.objects.specs.declared.answers.Refusal.TheVariants as refusal
use Rattle.objects.specs.Surface.{surface_fine}
use Rattle.object_checks.specs.Checks.{sectors_fine, window_fine}
use Rattle.jobs.specs.Job.{Job}
use Rattle.jobs.specs.Totals.{totals_count}

-- the refusal where a test fails, else what comes next
unfoldable pub tried : {Answer : Type 0} → (Refusal → Answer) → Bool → Refusal → Answer → Answer
tried refused fine r next = cond fine next (refused r)

-- ---- 5 to 7, which look at every step

-- at each time the index is not past the end of any of the three series, which start at hour 0 of a day and have a step in hours
unfoldable pub indices_fine : ℕ → Float → List ℕ → List ℕ → List ℕ → List Float → Bool
indices_fine day step diffuse direct reflectivity = at_all (λ (time : Float). in_series diffuse direct reflectivity (series_index time day step))

-- the values there are in their ranges
unfoldable pub readings_fine : ℕ → Float → List ℕ → List ℕ → List ℕ → List Float → Bool
readings_fine day step diffuse direct reflectivity =
    at_all (λ (time : Float). reading_fine (read_series diffuse direct reflectivity (series_index time day step)))

-- room for the table of days, also where there are no steps
unfoldable pub days_fine : List ℕ → Bool
days_fine days = leb 8784 (length days)

-- room for the totals of the year, 9,048 bytes or in a leap year 9,072, also where there are no steps
unfoldable pub totals_fine : Bool → List ℕ → Bool
totals_fine leap totals = leb (24 * totals_count leap) (length totals)

-- room for the rows: six whole words for each step; a part word counts for nothing
unfoldable pub results_fine : Run → List ℕ → Bool
results_fine run results = leb (6 * step_count run) (word_count results)

-- `room` says whether the lists that are lent have it
unfoldable pub series_checked : ℕ → Float → Run → List ℕ → List ℕ → List ℕ → Bool → Result ℕ Refusal
unfolding tried
series_checked day step run diffuse direct reflectivity room =
    tried Err (indices_fine day step diffuse direct reflectivity (times run)) refusal.Series
    (tried Err (readings_fine day step diffuse direct reflectivity (times run)) refusal.Reading
    (tried Err room refusal.Results
    (Ok (step_count run))))

-- ---- all nine

-- the number of steps, or the first refusal; the objects of both seasons are tried, whether or not a step falls there
unfoldable pub checked : Job → Bool → Result ℕ Refusal
unfolding tried series_checked
checked job room =
    let site = job.site in
    tried Err (edition_fine job.edition) refusal.Edition
    (tried Err (site_fine site) refusal.Site
    (tried Err (leaf_days_fine site) refusal.LeafDay
    (tried Err (run_accepted (hours_in_year site) job.run) refusal.Run
    (tried Err (surface_fine job.surface) refusal.Surface
    (tried Err (sectors_fine job.summer && sectors_fine job.winter && window_fine job.window) refusal.Object
    (series_checked site.start_day site.time_series_step job.run job.diffuse job.direct job.reflectivity room))))))
