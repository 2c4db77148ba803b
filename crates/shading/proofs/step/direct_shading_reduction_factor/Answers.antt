use Rattle.std.proofs.Common.{subst, sym, ap, ◌∙◌, T}
use Rattle.std.proofs.lemmas.Result.{err_from_is_err_and}
use lib.Ieee.{of_bits}
use Rattle.doubles.specs.Arithmetic.{whole}
use Rattle.objects.specs.Objects.{placed}
use Rattle.objects.specs.Records.{sectors_of, window_objects_of}
use Rattle.object_checks.proofs.ReadableSectors.{readable}
use Rattle.object_checks.proofs.AcceptedWindow.{window_places}
use Rattle.shading.specs.Factor.{factor_in, shading_factor}
use Rattle.shading.proofs.SunPlaces.{inside_by_found}
use Rattle.shading.proofs.step.direct_shading_reduction_factor.Goals as goal

pub returns-then-outside_solar_beam : goal.returns-then-outside_solar_beam
unfolding shading_factor whole of_bits
returns-then-outside_solar_beam c = rw (← c.outside_solar_beam.ensures, c.if-outside_solar_beam.true)

pub find_segment-requires : goal.find_segment-requires
find_segment-requires c = readable _ (subst T (sym c.args.sectors.fine) tt)

pub returns-in_err-found : goal.returns-in_err-found
unfolding factor_in
returns-in_err-found c =
    let a = c.args in
    let p = err_from_is_err_and c.from_residual.result c.from_residual.ensures.1 in
    rw (p.1, p.2)
    (inside_by_found a.edition a.surface a.altitude a.azimuth (window_objects_of a.window.bytes.now) (sym c.outside_solar_beam.ensures ∙ c.if-outside_solar_beam.false)
    (sectors_of a.sectors.bytes.now) _ (sym c.in_err-found.was ∙ c.find_segment.ensures))

pub returns : goal.returns
unfolding placed
returns c =
    let a = c.args in
    let w = a.window in
    let objects = c.objects-2.ensures ∙ ap placed c.objects.ensures ∙ window_places w.bytes.now (subst T (sym w.fine) tt) in
    c.factor_in.ensures
    ∙ rw (c.sun_on-sun.ensures, objects)
    (inside_by_found a.edition a.surface a.altitude a.azimuth (window_objects_of w.bytes.now) (sym c.outside_solar_beam.ensures ∙ c.if-outside_solar_beam.false)
    (sectors_of a.sectors.bytes.now) _ (sym c.in_ok-found.was ∙ c.find_segment.ensures))
