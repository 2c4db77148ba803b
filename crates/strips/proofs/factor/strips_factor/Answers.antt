use Rattle.std.specs.Prelude.{Ok}
use Rattle.std.proofs.lemmas.Result.{err_from_is_err_and}
use mathlib.Core.Path.{sym, ap, subst, ◌∙◌}
use mathlib.Core.List.{List}
use lib.Dec.{T}
use lib.Ieee.{of_bits}
use Rattle.doubles.specs.Arithmetic.{whole}
use Rattle.objects.specs.declared.surface.Surface.{Surface}
use Rattle.objects.specs.declared.window.WindowShadingObject.{WindowShadingObject}
use Rattle.objects.specs.Objects.{placed}
use Rattle.objects.specs.Records.{sectors_of, window_objects_of}
use Rattle.object_checks.proofs.ReadableSectors.{readable}
use Rattle.object_checks.proofs.AcceptedWindow.{window_places}
use Rattle.segments.proofs.Places.{sector_found}
use Rattle.shading.specs.Factor.{sun_on, factor_in}
use Rattle.strips.specs.Strips.{strips_of, mean_factor}
use Rattle.strips.proofs.Walks.{outside_one, walk_refused, found_mean}
use Rattle.strips.proofs.factor.strips_factor.Goals as goal

pub returns-then-outside_solar_beam : goal.returns-then-outside_solar_beam
unfolding whole of_bits
returns-then-outside_solar_beam c =
    let a = c.args in
    sym (outside_one a.glazing a.heights.now (subst T (sym c.requires) tt) a.edition a.altitude a.azimuth (sectors_of a.sectors.bytes.now) (window_objects_of a.window.bytes.now)
    (sym c.outside_solar_beam.ensures ∙ c.if-outside_solar_beam.true))

pub find_segment-requires : goal.find_segment-requires
find_segment-requires c = readable _ (subst T (sym c.args.sectors.fine) tt)

pub returns-in_err-found : goal.returns-in_err-found
returns-in_err-found c =
    let a = c.args in
    let p = err_from_is_err_and c.from_residual.result c.from_residual.ensures.1 in
    rw (p.1, p.2)
    (walk_refused a.glazing a.heights.now (subst T (sym c.requires) tt) a.edition a.altitude a.azimuth (sectors_of a.sectors.bytes.now) (window_objects_of a.window.bytes.now)
    (sym c.outside_solar_beam.ensures ∙ c.if-outside_solar_beam.false) _
    (sector_found a.azimuth (sectors_of a.sectors.bytes.now) _ (sym c.in_err-found.was ∙ c.find_segment.ensures)))

pub returns : goal.returns
unfolding placed
returns c =
    let a = c.args in
    let objects = c.objects-2.ensures ∙ ap placed c.objects.ensures ∙ window_places a.window.bytes.now (subst T (sym a.window.fine) tt) in
    c.mean_in.ensures
    ∙ ap (λ (ws : List WindowShadingObject). mean_factor (λ strip. factor_in strip c.sun_on-sun.result ws (Ok c.in_ok-found.found.segment)) (strips_of a.glazing a.heights.now)) objects
    ∙ found_mean a.glazing a.heights.now (subst T (sym c.requires) tt) a.edition a.altitude a.azimuth (sectors_of a.sectors.bytes.now) (window_objects_of a.window.bytes.now)
    (sym c.outside_solar_beam.ensures ∙ c.if-outside_solar_beam.false) _
    (sector_found a.azimuth (sectors_of a.sectors.bytes.now) _ (sym c.in_ok-found.was ∙ c.find_segment.ensures)) _ _ _
    (c.sun_on-sun.ensures ∙ ap (λ (z : Surface). sun_on a.edition z a.altitude a.azimuth) c.strip_of-lowest.ensures)
