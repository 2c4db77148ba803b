-- What a run keeps from step to step, worked out anew for an hour, and the totals where a step comes to a day.
use Rattle.std.specs.Prelude.{Float, Result}
use Rattle.objects.specs.declared.answers.Refusal.{Refusal}
use Rattle.std.specs.Prelude.{◌≡◌, Bool, true, false, List, ℕ, ◌/◌}
use Rattle.sun.specs.Hour.{hour_of}
use Rattle.objects.specs.Objects.{placed}
use Rattle.objects.specs.Records.{window_objects_of}
use Rattle.seasons.specs.declared.table.SeasonTable.{SeasonTable}
use Rattle.seasons.specs.Seasons.{in_leaf, sectors_for}
use Rattle.seasons.specs.Table.{season_table}
use Rattle.jobs.specs.Job.{Job}
use Rattle.jobs.specs.Step.{shading_at}
use Rattle.steps.specs.Kept.{fixed_of, kept_day, kept_hour}
use Rattle.totals.specs.declared.KeptTotals.{KeptTotals}
use Rattle.totals.specs.Kept.{kept_totals, put_kept}
use Rattle.runs.specs.declared.kept.Setting.{Setting}
use Rattle.runs.specs.declared.kept.Kept.{Kept}

-- what holds of the setting of a job that has passed the checks
pub record Ready (setting : Setting) : Type 0 where
  pub summer : setting.seasons.summer.bytes.now ≡ setting.job.summer.now
  pub winter : setting.seasons.winter.bytes.now ≡ setting.job.winter.now
  pub first : setting.seasons.first ≡ setting.job.site.first_leaf_day
  pub last : setting.seasons.last ≡ setting.job.site.last_leaf_day
  pub fixed : setting.fixed ≡ fixed_of setting.job.site setting.job.surface
  pub objects : placed setting.objects ≡ window_objects_of setting.job.window.now

-- the table of sectors for a day
abbrev pub day_table : Job → ℕ → SeasonTable
day_table job day = season_table (in_leaf job.site.first_leaf_day job.site.last_leaf_day day) job.summer job.winter

-- the factor in an hour, by the sectors of its day
abbrev pub hour_factor : Job → ℕ → Result Float Refusal
hour_factor job hour =
    shading_at job.edition job.surface (hour_of job.site hour) (sectors_for job.summer job.winter job.site.first_leaf_day job.site.last_leaf_day (hour / 24)) job.window

-- what is kept of an hour of the year, the totals being given
unfoldable pub kept_at : Job → KeptTotals → ℕ → Kept
kept_at job totals hour = record {
  hour = kept_hour job.site job.surface hour;
  day = kept_day (hour / 24);
  season = day_table job (hour / 24);
  totals = totals;
  factor = hour_factor job hour;
}

-- The list of totals, and what is kept of it, where a step comes to a day: on the same day both stay; on another one what was kept is
-- stored, and that day's is read.
unfoldable pub come_to : Bool → Bool → ℕ → List ℕ → KeptTotals → List ℕ × KeptTotals
come_to leap true day totals kept = (totals, kept)
come_to leap false day totals kept = (put_kept totals kept, kept_totals leap day (put_kept totals kept))
