-- What the loops over objects do at one object. Each step moves the largest extents so far past that object's.
use Rattle.std.specs.Prelude.{true, cond}
use Rattle.doubles.specs.Functions.{max_of2}
use Rattle.objects.specs.declared.surface.Surface.{Surface}
use Rattle.objects.specs.declared.sectors.ShadingObject.{ShadingObject}
use Rattle.shading.specs.declared.sun_on_surface.SunOnSurface.{SunOnSurface}
use Rattle.shading.specs.declared.distant.DistantShades.{DistantShades}
use Rattle.objects.specs.declared.window.WindowShadingObject.{WindowShadingObject}
use Rattle.shading.specs.declared.window.WindowShades.{WindowShades}
use Rattle.extents.specs.Extents.{obstacle_height, overhang_height, window_overhang_height}
use Rattle.fins.specs.Fins.{fin_width}
use Rattle.objects.specs.declared.window.WindowShadingType.TheVariants.{Overhang, SideFinRight, SideFinLeft, Reveal}
use Rattle.objects.specs.Objects.{is_obstacle, is_overhang, of_kind}

unfoldable pub distant_step : Surface → SunOnSurface → DistantShades → ShadingObject → DistantShades
unfolding is_obstacle is_overhang
distant_step surface sun shades o = record {
  obstacle =
      cond (is_obstacle o)
      (max_of2 shades.obstacle (obstacle_height surface.base_height o.height o.distance sun.tan_altitude))
      shades.obstacle;
  overhang =
      cond (is_overhang o)
      (max_of2 shades.overhang (overhang_height surface.height surface.base_height o.height o.distance sun.tan_altitude))
      shades.overhang;
}

unfoldable pub window_step : SunOnSurface → WindowShades → WindowShadingObject → WindowShades
unfolding of_kind
window_step sun shades o = record {
  overhang =
      cond (of_kind Overhang o)
      (max_of2 shades.overhang (window_overhang_height o.size o.distance sun.tan_altitude sun.cos_difference))
      shades.overhang;
  right =
      cond (of_kind SideFinRight o)
      (max_of2 shades.right (fin_width sun.fins.right o.size o.distance))
      shades.right;
  left =
      cond (of_kind SideFinLeft o)
      (max_of2 shades.left (fin_width sun.fins.left o.size o.distance))
      shades.left;
  reveal = cond (of_kind Reveal o) true shades.reveal;
}
