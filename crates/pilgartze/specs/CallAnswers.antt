-- Answers as they cross to C: the specification's numbers, 0 where accepted; on a refusal all else is 0.
use Rattle.std.specs.Prelude.{List, Float, ℤ, ℕ, Err, Ok, Result}
use Rattle.objects.specs.declared.answers.Refusal.{Refusal}
use Rattle.jobs.specs.declared.answers.Accepted.{Accepted}
use Rattle.jobs.specs.declared.answers.RefusedAt.{RefusedAt}
use Rattle.doubles.specs.Arithmetic.{whole}
use Rattle.sun.specs.declared.site.Site.{Site}
use Rattle.simulation_time.specs.declared.run.Run.{Run}
use Rattle.objects.specs.declared.surface.Surface.{Surface}
use Rattle.objects.specs.Refusals.{number_of}
use Rattle.weather.specs.declared.Reading.{Reading}
use Rattle.jobs.specs.Run.{Left, number_for, step_for, count_for, sum_for}
use Rattle.strips.specs.declared.glazing.TallGlazing.{TallGlazing}
use Rattle.single_steps.specs.Single.{Called, single_number}
use Rattle.pilgartze.specs.declared.Answer.{Answer}
use Rattle.pilgartze.specs.declared.ShadingFactor.{ShadingFactor}

unfoldable pub answer_for : Result Accepted RefusedAt → Answer
answer_for a = record { number = number_for a; step = step_for a; count = count_for a; sum = sum_for a }

unfoldable pub factor_for : Result Float Refusal → ShadingFactor
unfolding whole
factor_for (Ok x) = record { number = 0; factor = x }
factor_for (Err r) = record { number = number_of r; factor = whole 0 }

-- ---- what a call leaves: its answer, and the lists at exit that it was lent to store in

-- the table of days, the totals and the results
unfoldable pub run_leaves : Left → Answer × List ℕ × List ℕ × List ℕ
run_leaves left = (answer_for left.ran.answer, left.days, left.totals, left.ran.results)

unfoldable pub call_leaves : Called → ℕ × List ℕ
call_leaves left = (single_number left.answer, left.results)

-- ---- records of the numbers that a call passes

abbrev pub site_of : Float → Float → ℤ → ℕ → Float → ℕ → ℕ → ℕ → ℕ → Site
site_of latitude longitude timezone day step leap conversion first last = record {
  latitude = latitude;
  longitude = longitude;
  timezone = timezone;
  start_day = day;
  time_series_step = step;
  leap_year = leap;
  direct_beam_conversion = conversion;
  first_leaf_day = first;
  last_leaf_day = last;
}

abbrev pub times_of : Float → Float → Float → Run
times_of start end step = record { start = start; end = end; step = step }

abbrev pub surface_of : Float → Float → Float → Float → Float → Surface
surface_of tilt orientation base height width =
    record { tilt = tilt; orientation = orientation; base_height = base; height = height; width = width }

abbrev pub glazing_of : Float → Float → Float → Float → TallGlazing
glazing_of tilt orientation base width = record { tilt = tilt; orientation = orientation; base_height = base; width = width }

abbrev pub reading_of : Float → Float → Float → Reading
reading_of diffuse direct reflectivity = record { diffuse = diffuse; direct = direct; reflectivity = reflectivity }
