-- The parts of an hour, put together again, are the sun of that hour.
use Rattle.std.proofs.Common.{◌≡◌, ℕ, ◌+◌, ◌/◌, ◌%◌, refl}
use Rattle.days.specs.Day.{day_of}
use Rattle.sun.specs.declared.site.Site.{Site}
use Rattle.sun.specs.Hour.{sin_cos_of, time_shift_of, solar_altitude, solar_azimuth, hour_of}
use Rattle.sun.specs.HourParts.{altitude_terms, hour_angles_by, hour_from, hour_by}

pub hour_by_parts : (site : Site) (hour : ℕ)
    → let day = day_of (hour / 24 + 1) in
    hour_by (sin_cos_of site.latitude) (sin_cos_of day.declination) day.equation_of_time (time_shift_of site.timezone site.longitude) (hour % 24)
    ≡ hour_of site hour
unfolding hour_of hour_by hour_from hour_angles_by altitude_terms solar_altitude solar_azimuth sin_cos_of
hour_by_parts site hour = refl
