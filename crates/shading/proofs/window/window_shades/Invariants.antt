-- What is left of the list, from the shades so far, comes to the same as the whole list from the first ones.
use Rattle.std.proofs.Common.{◌≡◌, ◌||◌, drop}
use Rattle.doubles.specs.Arithmetic.{whole}
use Rattle.doubles.specs.Functions.{largest_of}
use Rattle.shading.specs.Factor.{window_overhang_extents, right_fin_extents, left_fin_extents, has_reveal}
use Rattle.shading.proofs.window.window_shades.Given as goal

abbrev pub invariant-loop-object : goal.invariant-loop-object
invariant-loop-object l = record {
  overhang : largest_of l.shades.overhang (window_overhang_extents l.sun (drop l.object-index l.objects)) ≡ largest_of l.overhang (window_overhang_extents l.sun l.objects);
  right : largest_of l.shades.right (right_fin_extents l.sun (drop l.object-index l.objects)) ≡ largest_of (whole 0) (right_fin_extents l.sun l.objects);
  left : largest_of l.shades.left (left_fin_extents l.sun (drop l.object-index l.objects)) ≡ largest_of (whole 0) (left_fin_extents l.sun l.objects);
  reveal : l.shades.reveal || has_reveal (drop l.object-index l.objects) ≡ has_reveal l.objects;
}
