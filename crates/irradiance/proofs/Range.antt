-- Where the angle of incidence lies: from 0 to 180 degrees, whatever the sines and cosines from −1 to 1 are that it comes of. So it is
-- never NaN. Assumes nothing.
use lib.Ieee.{Float, neg, add, sub, mul, div, le}
use Rattle.doubles.specs.Arithmetic.{◌⊕◌, ◌⊖◌, ◌⊗◌, ◌⊘◌, whole}
use Rattle.doubles.specs.Functions.{to_degrees, pi}
use Rattle.doubles.specs.Order.{◌≼◌, InRange, Bounded}
use Rattle.doubles.proofs.Bounds.{mul_nonneg}
use Rattle.doubles.proofs.Intervals.{bounded, bounded_number, add_bounded, sub_bounded, mul_bounded, constant}
use Rattle.angles.specs.declared.SinCos.{SinCos}
use Rattle.arcsines.proofs.Range.{arccosine_range}
use Rattle.sun.proofs.UnitRange.{UnitRange, unit_product}
use Rattle.irradiance.specs.Surface.{incidence_argument, incidence_angle}

argument_bounded : {l d t o w : SinCos} → UnitRange l → UnitRange d → UnitRange t → UnitRange o → UnitRange w → Bounded (whole 5) (incidence_argument l d t o w)
unfolding incidence_argument whole neg add sub le
argument_bounded {l} {d} {t} {o} {w} p q r s u =
    let first = unit_product (unit_product q.sin p.sin) r.cos in
    let second = unit_product (unit_product (unit_product q.sin p.cos) r.sin) s.cos in
    let third = unit_product (unit_product (unit_product q.cos p.cos) r.cos) u.cos in
    let fourth = unit_product (unit_product (unit_product (unit_product q.cos p.sin) r.sin) s.cos) u.cos in
    let fifth = unit_product (unit_product (unit_product q.cos r.sin) s.sin) u.sin in
    let to-second : Bounded (whole 2) (d.sin ⊗ l.sin ⊗ t.cos ⊖ d.sin ⊗ l.cos ⊗ t.sin ⊗ o.cos) = sub_bounded first second tt in
    let to-third : Bounded (whole 3) (d.sin ⊗ l.sin ⊗ t.cos ⊖ d.sin ⊗ l.cos ⊗ t.sin ⊗ o.cos ⊕ d.cos ⊗ l.cos ⊗ t.cos ⊗ w.cos) = add_bounded to-second third tt in
    let to-fourth : Bounded (whole 4) (d.sin ⊗ l.sin ⊗ t.cos ⊖ d.sin ⊗ l.cos ⊗ t.sin ⊗ o.cos ⊕ d.cos ⊗ l.cos ⊗ t.cos ⊗ w.cos ⊕ d.cos ⊗ l.sin ⊗ t.sin ⊗ o.cos ⊗ w.cos) =
    add_bounded to-third fourth tt in
    add_bounded to-fourth fifth tt

-- PI is 180 degrees, rounded as the paper has it
degrees_in : {x : Float} → InRange (whole 0) pi x → InRange (whole 0) (whole 180) (to_degrees x)
unfolding to_degrees pi whole neg mul div le
degrees_in {x} r =
    let wide : Bounded pi x = bounded r tt in
    let factor : Bounded (whole 180 ⊘ pi) (whole 180 ⊘ pi) = constant (whole 180 ⊘ pi) (whole 180 ⊘ pi) tt in
    let product : Bounded (whole 180) (x ⊗ (whole 180 ⊘ pi)) = mul_bounded wide factor tt in
    let up : whole 0 ≼ whole 180 ⊘ pi = record { holds = tt } in
    record { from = mul_nonneg r.from up (bounded_number product); to = product.to }

pub incidence_range : {l d t o w : SinCos} → UnitRange l → UnitRange d → UnitRange t → UnitRange o → UnitRange w → InRange (whole 0) (whole 180) (incidence_angle l d t o w)
unfolding incidence_angle
incidence_range p q r s u = degrees_in (arccosine_range (bounded_number (argument_bounded p q r s u)))
