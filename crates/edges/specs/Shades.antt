-- The calls of the examples on shading and on runs, with their lists in bytes.
use Rattle.std.specs.Prelude.{Bool, cond, List, [], ℕ, pos, replicate, Float, Result}
use Rattle.objects.specs.declared.answers.Refusal.{Refusal}
use Rattle.doubles.specs.Arithmetic.{whole, decimal}
use Rattle.words.specs.Words.{put_word, put_double}
use Rattle.objects.specs.declared.surface.Surface.{Surface}
use Rattle.shading.specs.Call.{factor_call}
use Rattle.jobs.specs.Job.{Job, job_of}
use Rattle.lines.specs.Line.{whole_horizon, one_obstacle}

-- base 0, height 2, width 1; upright, facing south
unfoldable pub south_wall : Surface
south_wall = record { tilt = whole 90; orientation = whole 180; base_height = whole 0; height = whole 2; width = whole 1 }

-- at altitude 0
unfoldable pub factor_at : ℕ → Float → List ℕ → List ℕ → Result Float Refusal
factor_at edition azimuth sectors window = factor_call edition (whole 0) azimuth south_wall sectors window

-- one sector, all around, with one object, 10 m away
unfoldable pub horizon_with : ℕ → Float → List ℕ
horizon_with kind height = put_double (put_double (put_word (put_word whole_horizon 2 1) 3 kind) 4 height) 5 (whole 10)

-- 0..180 and start..360
unfoldable pub two_sectors : Float → List ℕ
two_sectors start = put_double (put_double (put_double (replicate 432 0) 1 (whole 180)) 27 start) 28 (whole 360)

-- 1 m, 3 m away, transparency 0.5
unfoldable pub near_obstacle : List ℕ
near_obstacle = one_obstacle (whole 1) (whole 3) (decimal 5 1)

unfoldable pub window_with : Bool → List ℕ
window_with near = cond near near_obstacle []

-- an overhang (kind 1), a fin (2 right, 3 left) or a reveal (4), right at the window
unfoldable pub one_part : ℕ → Float → List ℕ
one_part kind depth = put_double (put_word (replicate 32 0) 0 kind) 1 depth

-- start 0, end 3, step 1, with zeros for the series, and the same sectors in both seasons
unfoldable pub three_hours : ℕ → ℕ → Job
three_hours first last =
    job_of
    1
    (record {
      latitude = whole 51;
      longitude = whole 0;
      timezone = pos 0;
      start_day = 0;
      time_series_step = whole 1;
      leap_year = 0;
      direct_beam_conversion = 0;
      first_leaf_day = first;
      last_leaf_day = last;
    })
    (record { start = whole 0; end = whole 3; step = whole 1 })
    south_wall
    (replicate 24 0)
    (replicate 24 0)
    (replicate 24 0)
    whole_horizon
    whole_horizon
    []
