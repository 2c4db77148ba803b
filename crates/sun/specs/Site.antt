-- When a site is turned down (refusals 1 and 15), and how long its year is.
use Rattle.std.specs.Prelude.{ℕ, Bool, cond, ◌&&◌, pos, neg_ℤ, ◌==◌, int_le, nat_le}
use Rattle.std.specs.Float.Ieee.{neg}
use Rattle.doubles.specs.Arithmetic.{whole, decimal}
use Rattle.doubles.specs.Ranges.{within}
use Rattle.sun.specs.declared.site.Site.{Site}

-- latitude −90..90, longitude −180..180, timezone −13..14, start day 0..365, series step 0.25..24 hours, both flags 0 or 1
unfoldable pub site_fine : Site → Bool
unfolding within whole decimal neg
site_fine site =
    within (neg (whole 90)) (whole 90) site.latitude
    && within (neg (whole 180)) (whole 180) site.longitude
    && (int_le (neg_ℤ (pos 13)) site.timezone && int_le site.timezone (pos 14))
    && nat_le site.start_day 365
    && within (decimal 25 2) (whole 24) site.time_series_step
    && nat_le site.leap_year 1
    && nat_le site.direct_beam_conversion 1

-- first and last leaf day 0..365, in either year
unfoldable pub leaf_days_fine : Site → Bool
leaf_days_fine site = nat_le site.first_leaf_day 365 && nat_le site.last_leaf_day 365

abbrev pub leap_year_of : Site → Bool
leap_year_of site = site.leap_year == 1

-- every step's hour is below this
unfoldable pub hours_in_year : Site → ℕ
hours_in_year site = cond (leap_year_of site) 8784 8760
