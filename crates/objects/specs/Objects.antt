-- The kinds of objects, and which objects of a sector or at the window are counted.
use Rattle.std.specs.Prelude.{Bool, true, false, List, ℕ, eqb, take}
use Rattle.objects.specs.declared.sectors.ShadingObject.{ShadingObject}
use Rattle.objects.specs.declared.sectors.ShadingObjectType.TheVariants as distant
use Rattle.objects.specs.declared.sectors.ShadingSegment.{ShadingSegment}
use Rattle.objects.specs.declared.window.WindowShadingObject.{WindowShadingObject}
use Rattle.objects.specs.declared.window.WindowShadingType.{WindowShadingType}
use Rattle.objects.specs.declared.window.WindowShadingType.TheVariants as near
use Rattle.objects.specs.declared.window.WindowShading.{WindowShading}

-- a distant object is an obstacle, or else an overhang
unfoldable pub is_obstacle : ShadingObject → Bool
is_obstacle o = elim o.object_type [ distant.Obstacle ↦ true | distant.Overhang ↦ false ]

unfoldable pub is_overhang : ShadingObject → Bool
is_overhang o = elim o.object_type [ distant.Obstacle ↦ false | distant.Overhang ↦ true ]

-- the number of a kind at the window, as in the lent words
unfoldable pub kind_number : WindowShadingType → ℕ
kind_number near.Obstacle = 0
kind_number near.Overhang = 1
kind_number near.SideFinRight = 2
kind_number near.SideFinLeft = 3
kind_number near.Reveal = 4

unfoldable pub of_kind : WindowShadingType → WindowShadingObject → Bool
unfolding kind_number
of_kind kind o = eqb (kind_number kind) (kind_number o.object_type)

-- the counted objects of a sector
unfoldable pub counted : ShadingSegment → List ShadingObject
counted s = take s.count s.shading_objects

-- the counted objects at the window
unfoldable pub placed : WindowShading → List WindowShadingObject
placed w = take w.count w.objects
