-- More objects never make the factor larger: each is there unchanged, and so shades no less. Assumes nothing.
use mathlib.Core.Path.{refl}
use mathlib.Core.List.{List}
use Rattle.doubles.specs.Order.{◌≼◌}
use Rattle.objects.specs.declared.surface.Surface.{Surface}
use Rattle.objects.specs.declared.sectors.ShadingObject.{ShadingObject}
use Rattle.objects.specs.declared.window.WindowShadingObject.{WindowShadingObject}
use Rattle.shading.specs.declared.sun_on_surface.SunOnSurface.{SunOnSurface}
use Rattle.shading.specs.Factor.{reduction_factor}
use Rattle.shading_laws.specs.Premises.{AcceptedSurface, NoNanExtent, AcceptedNear, Holds}
use Rattle.shading_laws.specs.Sizes.{same, unchanged}
use Rattle.shading_laws.proofs.Sizes.{factor_no_larger}

-- a list that holds all objects of another gives no larger a factor
pub factor_more_objects : {surface : Surface} {sun : SunOnSurface} {xs ys : List ShadingObject} {ws vs : List WindowShadingObject}
    → AcceptedSurface surface → NoNanExtent surface sun xs ws → NoNanExtent surface sun ys vs → Holds ys xs → Holds vs ws → AcceptedNear ws → AcceptedNear vs
    → reduction_factor surface sun ys vs ≼ reduction_factor surface sun xs ws
factor_more_objects a less more h k b c =
    factor_no_larger a less more b c
    (λ o m. record { other = o; member = h o m; related = same refl })
    (λ o m. record { other = o; member = k o m; related = unchanged refl })
