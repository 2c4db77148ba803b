-- The irradiance on the surface and its parts, added as the Rust adds them. Values are in W/m².
use Rattle.std.specs.Prelude.{cond, Float}
use Rattle.std.specs.Float.Ieee.{lt}
use Rattle.doubles.specs.Arithmetic.{◌⊕◌, ◌⊖◌, ◌⊗◌, ◌⊘◌, whole}
use Rattle.angles.specs.declared.SinCos.{SinCos}
use Rattle.irradiance.specs.declared.sky.Sky.{Sky}
use Rattle.irradiance.specs.declared.surface.Incidence.{Incidence}
use Rattle.irradiance.specs.declared.parts.Irradiance.{Irradiance}

-- a beam behind the surface gives 0
unfoldable pub direct_irradiance : Float → Float → Float
unfolding whole
direct_irradiance beam cos_incidence = let direct = beam ⊗ cos_incidence in cond (lt direct (whole 0)) (whole 0) direct

unfoldable pub sky_irradiance : Float → Float → Float → Float
unfolding whole
sky_irradiance diffuse f1 cos_tilt = diffuse ⊗ (whole 1 ⊖ f1) ⊗ ((whole 1 ⊕ cos_tilt) ⊘ whole 2)

unfoldable pub circumsolar_irradiance : Float → Float → Float → Float
circumsolar_irradiance diffuse f1 ratio = diffuse ⊗ f1 ⊗ ratio

unfoldable pub horizontal_irradiance : Float → Float → Float → Float
horizontal_irradiance diffuse f2 sin_tilt = diffuse ⊗ f2 ⊗ sin_tilt

unfoldable pub ground_reflection : Float → Float → Float → Float → Float → Float
unfolding whole
ground_reflection diffuse beam sin_altitude reflectivity cos_tilt =
    (diffuse ⊕ beam ⊗ sin_altitude) ⊗ reflectivity ⊗ ((whole 1 ⊖ cos_tilt) ⊘ whole 2)

-- direct with the circumsolar part, diffuse without it and with the ground's reflection, and their sum
unfoldable pub irradiance_of : SinCos → Incidence → Sky → Float → Float → Irradiance
unfolding direct_irradiance sky_irradiance circumsolar_irradiance horizontal_irradiance ground_reflection
irradiance_of tilt incidence sky sin_altitude reflectivity =
    let sky_part = sky_irradiance sky.diffuse sky.f1 tilt.cos in
    let circumsolar = circumsolar_irradiance sky.diffuse sky.f1 incidence.a_over_b in
    let horizontal = horizontal_irradiance sky.diffuse sky.f2 tilt.sin in
    let from_ground = ground_reflection sky.diffuse sky.beam sin_altitude reflectivity tilt.cos in
    let direct = direct_irradiance sky.beam incidence.cos ⊕ circumsolar in
    let diffuse = sky_part ⊕ circumsolar ⊕ horizontal ⊖ circumsolar ⊕ from_ground in
    record {
      direct = direct;
      diffuse = diffuse;
      total = direct ⊕ diffuse;
      sky = sky_part;
      circumsolar = circumsolar;
      horizontal = horizontal;
      from_ground = from_ground;
    }
