use Rattle.std.proofs.Common.{ℕ, [], get_or, sym, ◌∙◌}
use Rattle.std.proofs.lemmas.Result.{err_from_is_err_and}
use lib.Ieee.{of_bits, nan}
use Rattle.objects.specs.declared.sectors.ShadingSegment.{ShadingSegment}
use Rattle.doubles.specs.Arithmetic.{whole}
use Rattle.segments.proofs.Places.{place_record}
use Rattle.shading.specs.Factor.{factor_in, shading_factor}
use Rattle.shading.proofs.SunPlaces.{inside_by_place}
use Rattle.shading.proofs.step.factor_of.Goals as goal

-- what a place outside the list stands for
abbrev blank : ShadingSegment
blank = record { start360 = nan; end360 = nan; count = 0; shading_objects = [] }

pub returns-then-outside_solar_beam : goal.returns-then-outside_solar_beam
unfolding shading_factor whole of_bits
returns-then-outside_solar_beam c = rw (← c.outside_solar_beam.ensures, c.if-outside_solar_beam.true)

pub returns-in_err-place : goal.returns-in_err-place
unfolding factor_in
returns-in_err-place c =
    let a = c.args in
    let l = a.sectors.now in
    let p = err_from_is_err_and c.from_residual.result c.from_residual.ensures.1 in
    rw (p.1, p.2)
    (inside_by_place a.edition a.surface a.altitude a.azimuth a.window.now (sym c.outside_solar_beam.ensures ∙ c.if-outside_solar_beam.false) l
    (λ (i : ℕ). get_or l i blank) (λ i there. place_record a.azimuth l i blank there) _ (sym c.in_err-place.was ∙ c.get_segment.ensures.place))

pub returns : goal.returns
returns c =
    let a = c.args in
    let l = a.sectors.now in
    c.factor_in.ensures
    ∙ rw c.sun_on-sun.ensures
    (inside_by_place a.edition a.surface a.altitude a.azimuth a.window.now (sym c.outside_solar_beam.ensures ∙ c.if-outside_solar_beam.false) l
    (λ (i : ℕ). get_or l i blank) (λ i there. place_record a.azimuth l i blank there) _ (sym c.in_ok-place.was ∙ c.get_segment.ensures.place))
