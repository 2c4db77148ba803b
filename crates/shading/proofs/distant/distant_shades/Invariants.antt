-- What is left of the list, from the shades so far, comes to the same as the whole list from 0.
use Rattle.std.proofs.Common.{◌≡◌, drop}
use Rattle.doubles.specs.Arithmetic.{whole}
use Rattle.doubles.specs.Functions.{largest_of}
use Rattle.shading.specs.Factor.{obstacle_extents, overhang_extents}
use Rattle.shading.proofs.distant.distant_shades.Given as goal

abbrev pub invariant-loop-object : goal.invariant-loop-object
invariant-loop-object l = record {
  obstacle : largest_of l.shades.obstacle (obstacle_extents l.surface l.sun (drop l.object-index l.objects)) ≡ largest_of (whole 0) (obstacle_extents l.surface l.sun l.objects);
  overhang : largest_of l.shades.overhang (overhang_extents l.surface l.sun (drop l.object-index l.objects)) ≡ largest_of (whole 0) (overhang_extents l.surface l.sun l.objects);
}
