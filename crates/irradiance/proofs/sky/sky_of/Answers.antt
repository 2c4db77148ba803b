use Rattle.irradiance.specs.Sky.{brightness, circumsolar_brightness, horizontal_brightness, sky_of}
use Rattle.irradiance.proofs.sky.sky_of.Goals as goal

pub returns : goal.returns
unfolding sky_of circumsolar_brightness horizontal_brightness brightness
returns c =
    rw (
      c.horizontal_brightness.ensures,
      c.circumsolar_brightness.ensures,
      c.coefficients_at-row.ensures,
      c.init_dimensionless_sky_brightness_parameter-delta.ensures,
      c.init_dimensionless_clearness_parameter-e.ensures,
      c.init_direct_beam_radiation-beam.ensures,
    )
