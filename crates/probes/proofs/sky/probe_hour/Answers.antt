use mir.Facts.{to_z-of_z}
use Rattle.probes.specs.Hours.{hour_at}
use Rattle.probes.proofs.sky.probe_hour.Goals as goal

pub returns : goal.returns
unfolding hour_at
returns c =
    rw (
      c.hour_with.ensures,
      c.init_time_shift.ensures,
      c.sin_cos_of_degrees-4.ensures,
      c.transform_to_180.ensures,
      c.sin_cos_of_degrees-3.ensures,
      c.sin_cos_of_degrees-2.ensures,
      c.sin_cos_of_degrees.ensures,
      c.day_of-day.ensures,
      to_z-of_z c.ranges.timezone,
    )
