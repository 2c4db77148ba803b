-- What is left of the list, from the factor so far, comes to the same as the whole list from the first.
use Rattle.std.proofs.Common.{◌≡◌, drop}
use Rattle.objects.specs.declared.window.WindowShadingType.TheVariants.{Obstacle}
use Rattle.objects.specs.Objects.{of_kind}
use Rattle.shading.specs.Factor.{least_of, extents, near_factor}
use Rattle.shading.proofs.factor.least_factor.Given as goal

abbrev pub invariant-loop-object : goal.invariant-loop-object
invariant-loop-object l =
    let allowed = near_factor l.surface l.sun l.hk_ovh l.wk_sun in
    least_of l.factor (extents (of_kind Obstacle) allowed (drop l.object-index l.objects)) ≡ least_of l.first (extents (of_kind Obstacle) allowed l.objects)
