-- The factor is a double, whatever goes in: NaN, infinities and surfaces that no job accepts included. Assumes nothing.
use mathlib.Core.Path.{refl, sym, subst}
use mathlib.Core.List.{List, [], ◌∷◌, Memᴰ}
use lib.Ieee.{Float, binary64}
use lib.Ieee.Fits.{div-fits}
use Rattle.doubles.specs.Arithmetic.{◌⊗◌}
use Rattle.doubles.specs.Functions.{float_min}
use Rattle.doubles.specs.Order.{Fits}
use Rattle.doubles.proofs.MinMax.{float_min_fits}
use Rattle.objects.specs.declared.surface.Surface.{Surface}
use Rattle.objects.specs.declared.sectors.ShadingObject.{ShadingObject}
use Rattle.objects.specs.declared.window.WindowShadingObject.{WindowShadingObject}
use Rattle.objects.specs.declared.window.WindowShadingType.TheVariants.{Obstacle}
use Rattle.objects.specs.Objects.{of_kind}
use Rattle.shading.specs.declared.sun_on_surface.SunOnSurface.{SunOnSurface}
use Rattle.shading.specs.Factor.{overhang_shade, sunlit_height, sunlit_width, sunlit_part, near_factor, least_of, reduction_factor}
use Rattle.shading_laws.proofs.Members.{Extent, extents_from}
use Rattle.shading_laws.proofs.Sides.{part, near_height}
use Rattle.shading_laws.proofs.Bounds.{base, near, nears, near_shade, near_factor_is}

least_fits : (first : Float) (xs : List Float) → Fits first → ((x : Float) → Memᴰ x xs → Fits x) → Fits (least_of first xs)
unfolding least_of
least_fits first [] f h = f
least_fits first (x ∷ xs) f h = least_fits (float_min first x) xs (float_min_fits f (h x (Memᴰ.head refl))) (λ y m. h y (Memᴰ.tail m))

part_fits : (height width h w : Float) → Fits (part height width h w)
unfolding part
part_fits height width h w = record { holds = div-fits binary64 (h ⊗ w) (height ⊗ width) }

near_fits : (surface : Surface) (sun : SunOnSurface) (hk_overhang wk_sun : Float) (o : WindowShadingObject) → Fits (near_factor surface sun hk_overhang wk_sun o)
near_fits surface sun hk_overhang wk_sun o =
    subst Fits (sym (near_factor_is surface sun hk_overhang wk_sun o))
    (part_fits surface.height surface.width (near_height surface.height (near_shade surface sun o) hk_overhang o.transparency) wk_sun)

pub factor_fits : (surface : Surface) (sun : SunOnSurface) (distants : List ShadingObject) (window : List WindowShadingObject) → Fits (reduction_factor surface sun distants window)
unfolding reduction_factor sunlit_part part base near nears
factor_fits surface sun distants window =
    least_fits (base surface sun distants window) (nears surface sun distants window)
    (part_fits surface.height surface.width (sunlit_height surface sun distants (overhang_shade surface sun distants window)) (sunlit_width surface sun window))
    (λ x m.
    let e : Extent (of_kind Obstacle) (near surface sun distants window) window x = extents_from (of_kind Obstacle) (near surface sun distants window) window x m in
    subst Fits (sym e.value) (near_fits surface sun (overhang_shade surface sun distants window) (sunlit_width surface sun window) e.object))
