-- The parts of an hour, put together, are the hour and its incidence.
use mathlib.Core.Path.{◌≡◌}
use Prim.Native.Nat.{ℕ}
use lib.Ieee.{Float}
use Rattle.angles.specs.declared.SinCos.{SinCos}
use Rattle.arcsines.specs.Arcsine.{arcsine, arccosine}
use Rattle.sun.specs.declared.hour.Hour.{Hour}
use Rattle.sun.specs.declared.hour.HourAngles.{HourAngles}
use Rattle.sun.specs.Hour.{altitude_sine}
use Rattle.sun.specs.HourParts.{hour_angles_by, hour_from, hour_by}
use Rattle.irradiance.specs.declared.surface.Incidence.{Incidence}
use Rattle.irradiance.specs.Surface.{incidence_argument, incidence_angle, incidence_cosine, incidence_by, incidence_of}

module _ (l d : SinCos) (equation shift : Float) (hour : ℕ) (angles : HourAngles) where
  pub sun_put_together : (sine arc : Float) (sun : Hour) → angles ≡ hour_angles_by equation shift hour
      → sine ≡ altitude_sine l d angles.hour_angle.cos → arc ≡ arcsine sine → sun ≡ hour_from l d angles arc → sun ≡ hour_by l d equation shift hour
  unfolding hour_by
  sun_put_together sine arc sun t s a e = rw (e, a, s, t)

  pub incidence_put_together : (t o : SinCos) (argument arc cos : Float) (sun : Hour) (incidence : Incidence) → angles ≡ hour_angles_by equation shift hour
      → argument ≡ incidence_argument l d t o angles.hour_angle → arc ≡ arcsine argument → cos ≡ incidence_cosine arc
      → incidence ≡ incidence_by cos sun.cos_zenith → sun ≡ hour_by l d equation shift hour → incidence ≡ incidence_of l d t o (hour_by l d equation shift hour)
  unfolding hour_by hour_from incidence_of incidence_angle incidence_cosine arccosine
  incidence_put_together t o argument arc cos sun incidence w a r k e s = rw (e, k, r, a, w, s)
