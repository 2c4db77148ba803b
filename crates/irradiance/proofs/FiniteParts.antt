-- The irradiance of a step is finite: direct, diffuse, total and their parts lie within 2·10¹³ W/m², for the sun of every hour and readings in
-- their ranges. (The bound is far from any value that is met; it says that nothing overflows and nothing is NaN.) Assumes nothing.
use mathlib.Core.Path.{◌≡◌, refl}
use mathlib.Core.Bool.{Bool, true, false, cond, ◌&&◌}
use mathlib.Core.List.{[]}
use Prim.Native.Nat.{ℕ, zero, suc, ◌*◌, ◌^◌, ◌<◌}
use native.Mathlib.Omega.{arith}
use lib.Dec.{T}
use lib.ListN.{get_or}
use lib.Ieee.{Float, nan, neg, add, sub, mul, div, lt, le, is_nan}
use Rattle.doubles.specs.Arithmetic.{◌⊕◌, ◌⊖◌, ◌⊗◌, ◌⊘◌, decimal, whole, bits}
use Rattle.doubles.specs.Functions.{max_of2, pi}
use Rattle.doubles.specs.Order.{◌≼◌, ◌≺◌, InRange, Bounded}
use Rattle.doubles.proofs.Order.{le_trans}
use Rattle.doubles.proofs.Bounds.{zero_number, one_number, zero-le_one}
use Rattle.doubles.proofs.Folds.{max_left}
use Rattle.doubles.proofs.MinMax.{max_least}
use Rattle.doubles.proofs.Intervals.{in_number, cut_in, own_range, widen, add_in, sub_in, mul_in, div_by_in, bounded, as_range, bounded_number, more_bounded, add_bounded, sub_bounded, mul_bounded, div_bounded, constant, tests, tested}
use Rattle.angles.specs.declared.SinCos.{SinCos}
use Rattle.sun.specs.declared.hour.Hour.{Hour}
use Rattle.angles.proofs.Laws.{cosine_range}
use Rattle.sun.proofs.UnitRange.{UnitRange, radians_bounded}
use Rattle.sun.proofs.Range.{SunRange}
use Rattle.irradiance.specs.declared.parts.Irradiance.{Irradiance}
use Rattle.irradiance.specs.Table.{coefficients, coefficients_at, table_row}
use Rattle.irradiance.specs.Sky.{direct_beam, clearness, sky_brightness, brightness_of, brightness_in, brightness, cut_brightness, circumsolar_brightness, horizontal_brightness, sky_of}
use Rattle.irradiance.specs.Surface.{cosine_of_degrees, a_over_b_of, incidence_by, incidence_of}
use Rattle.irradiance.specs.Parts.{direct_irradiance, sky_irradiance, circumsolar_irradiance, horizontal_irradiance, ground_reflection, irradiance_of}
use Rattle.irradiance.proofs.Constants.{cosine_85}
use Rattle.irradiance.proofs.TableRow.{table_row_is_row}
use Rattle.irradiance.proofs.Range.{incidence_range}

-- ---- the beam after conversion

abbrev most_beam : Float
most_beam = whole (2 * 10 ^ 10)

beam_in : {raw s : Float} (conversion : Bool) → InRange (whole 0) (whole 10000) raw → InRange (whole 0) (whole 1) s → (whole 0 ≺ s → decimal 6 7 ≼ s)
    → InRange (whole 0) most_beam (direct_beam conversion raw s)
unfolding direct_beam whole decimal div lt le
beam_in {raw} {s} conversion r q above = go conversion (lt (whole 0) s) refl
  where
    own : InRange (whole 0) most_beam raw
    own = widen r tt

    by : whole 0 ≺ s → InRange (whole 0) most_beam (raw ⊘ s)
    by h =
        let from-6 : InRange (decimal 6 7) (whole 1) s = record { from = above h; to = q.to } in
        div_by_in r from-6 tt tt

    go : (b c : Bool) → lt (whole 0) s ≡ c → InRange (whole 0) most_beam (cond b (cond c (raw ⊘ s) raw) raw)
    go false c e = own
    go true false e = own
    go true true e = by (record { holds = rw e tt })

-- ---- the coefficients of Table 8 lie within 2

coefficient_test : Float → Bool
unfolding whole neg le
coefficient_test c = le (neg (whole 2)) c && le c (whole 2)

-- tests count from 1, rows and columns from 0
abbrev before : ℕ → ℕ
before zero = 0
before (suc n) = n

in_row : ℕ → ℕ → Bool
unfolding coefficient_test coefficients
in_row row n = coefficient_test (get_or (get_or coefficients row []) (before n) nan)

row_test : ℕ → Bool
unfolding tests in_row
row_test n = tests (in_row (before n)) 6

rows_tested : T (tests row_test 8)
unfolding tests row_test
rows_tested = tt

coefficient_bounded : (e : Float) (k : ℕ) → k < 6 → Bounded (whole 2) (get_or (coefficients_at e) k nan)
unfolding coefficients_at row_test in_row coefficient_test
coefficient_bounded e k l =
    let row = (table_row_is_row e).within in
    constant (whole 2) (get_or (get_or coefficients (table_row e) []) k nan) (tested (in_row (table_row e)) 6 (tested row_test 8 rows_tested (table_row e) (omega (arith, row))) k l)

-- ---- F1 and F2

abbrev most_brightness : Float
most_brightness = whole (3 * 10 ^ 7)

delta_in : {m diffuse x : Float} → InRange (whole 0) (whole (10 ^ 6)) m → InRange (whole 0) (whole 10000) diffuse → InRange (whole 1300) (whole 1420) x
    → InRange (whole 0) (whole (10 ^ 7)) (sky_brightness m diffuse x)
unfolding sky_brightness whole mul div lt le
delta_in {m} {diffuse} p q r =
    let product : InRange (whole 0) (whole (10 ^ 10)) (m ⊗ diffuse) = mul_in p q tt tt in
    div_by_in product r tt tt

brightness_bounded : {a b c delta zenith : Float} → Bounded (whole 2) a → Bounded (whole 2) b → Bounded (whole 2) c → InRange (whole 0) (whole (10 ^ 7)) delta → InRange (whole 0) (whole 90) zenith
    → Bounded most_brightness (brightness_of a b c delta zenith)
unfolding brightness_of whole decimal neg add mul div lt le is_nan
brightness_bounded {a} {b} {c} {delta} {zenith} p q r s t =
    let delta-bounded : Bounded (whole (10 ^ 7)) delta = bounded s tt in
    let zenith-bounded : Bounded (whole 90) zenith = bounded t tt in
    let turned : Bounded (whole 284) (pi ⊗ zenith) = mul_bounded (constant (decimal 315 2) pi tt) zenith-bounded tt in
    let radians : Bounded (whole 2) (pi ⊗ zenith ⊘ whole 180) = div_bounded (whole 180) turned tt tt in
    let second : Bounded (whole (2 * 10 ^ 7)) (b ⊗ delta) = mul_bounded q delta-bounded tt in
    let third : Bounded (whole 4) (c ⊗ (pi ⊗ zenith ⊘ whole 180)) = mul_bounded r radians tt in
    let sum : Bounded (whole (21 * 10 ^ 6)) (a ⊕ b ⊗ delta) = add_bounded p second tt in
    add_bounded sum third tt

brightness_up : whole 0 ≼ most_brightness
unfolding whole le
brightness_up = record { holds = tt }

f1_in : (e : Float) {delta zenith : Float} → InRange (whole 0) (whole (10 ^ 7)) delta → InRange (whole 0) (whole 90) zenith → InRange (whole 0) most_brightness (circumsolar_brightness e delta zenith)
unfolding circumsolar_brightness brightness brightness_in cut_brightness
f1_in e s t = cut_in brightness_up (brightness_bounded (coefficient_bounded e 0 (omega arith)) (coefficient_bounded e 1 (omega arith)) (coefficient_bounded e 2 (omega arith)) s t)

f2_bounded : (e : Float) {delta zenith : Float} → InRange (whole 0) (whole (10 ^ 7)) delta → InRange (whole 0) (whole 90) zenith → Bounded most_brightness (horizontal_brightness e delta zenith)
unfolding horizontal_brightness brightness brightness_in
f2_bounded e s t = brightness_bounded (coefficient_bounded e 3 (omega arith)) (coefficient_bounded e 4 (omega arith)) (coefficient_bounded e 5 (omega arith)) s t

-- ---- the ratio a / b

cosine_85_in : InRange (decimal 87 3) (whole 1) (cosine_of_degrees (whole 85))
unfolding whole decimal bits le is_nan
cosine_85_in = rw cosine_85 (widen (own_range {x = bits 0x3FB64FD6B8C280FF} (record { holds = tt })) tt)

ratio_in : {c z : Float} → Bounded (whole 1) c → Bounded (whole 1) z → InRange (whole 0) (whole 12) (a_over_b_of c z)
unfolding a_over_b_of
ratio_in {c} {z} p q =
    let number-85 = in_number cosine_85_in in
    let seen : InRange (whole 0) (whole 1) (max_of2 (whole 0) c) = record { from = max_left zero_number (bounded_number p); to = max_least zero-le_one p.to } in
    let flat : InRange (decimal 87 3) (whole 1) (max_of2 (cosine_of_degrees (whole 85)) z) =
    record { from = le_trans cosine_85_in.from (max_left number-85 (bounded_number q)); to = max_least cosine_85_in.to q.to } in
    quotient seen flat
  where
    quotient : {x y : Float} → InRange (whole 0) (whole 1) x → InRange (decimal 87 3) (whole 1) y → InRange (whole 0) (whole 12) (x ⊘ y)
    quotient s t = div_by_in s t (unfold whole decimal lt le in tt) (unfold whole decimal div le in tt)

-- ---- the parts

abbrev pub most_part : Float
most_part = whole (10 ^ 12)

beam_up : whole 0 ≼ most_beam
unfolding whole le
beam_up = record { holds = tt }

direct_in : {beam c : Float} → InRange (whole 0) most_beam beam → Bounded (whole 1) c → InRange (whole 0) most_beam (direct_irradiance beam c)
unfolding direct_irradiance whole neg mul le
direct_in {beam} {c} r q =
    let wide : Bounded most_beam beam = bounded r tt in
    let product : Bounded most_beam (beam ⊗ c) = mul_bounded wide q tt in
    cut_in beam_up product

circumsolar_in : {diffuse f1 ratio : Float} → InRange (whole 0) (whole 10000) diffuse → InRange (whole 0) most_brightness f1 → InRange (whole 0) (whole 12) ratio
    → InRange (whole 0) (whole (4 * 10 ^ 12)) (circumsolar_irradiance diffuse f1 ratio)
unfolding circumsolar_irradiance whole mul le
circumsolar_in {diffuse} {f1} p q r =
    let product : InRange (whole 0) (whole (3 * 10 ^ 11)) (diffuse ⊗ f1) = mul_in p q tt tt in
    mul_in product r tt tt

sky_bounded : {diffuse f1 c : Float} → InRange (whole 0) (whole 10000) diffuse → InRange (whole 0) most_brightness f1 → Bounded (whole 1) c → Bounded most_part (sky_irradiance diffuse f1 c)
unfolding sky_irradiance whole neg add sub mul div lt le
sky_bounded {diffuse} {f1} {c} p q r =
    let diffuse-bounded : Bounded (whole 10000) diffuse = bounded p tt in
    let rest : InRange (neg (whole (3 * 10 ^ 7))) (whole 1) (whole 1 ⊖ f1) = sub_in (own_range one_number) q tt in
    let rest-bounded : Bounded (whole (3 * 10 ^ 7)) (whole 1 ⊖ f1) = bounded rest tt in
    let sum : Bounded (whole 2) (whole 1 ⊕ c) = add_bounded (constant (whole 1) (whole 1) tt) r tt in
    let view : Bounded (whole 1) ((whole 1 ⊕ c) ⊘ whole 2) = div_bounded (whole 2) sum tt tt in
    let product : Bounded (whole (3 * 10 ^ 11)) (diffuse ⊗ (whole 1 ⊖ f1)) = mul_bounded diffuse-bounded rest-bounded tt in
    mul_bounded product view tt

horizontal_bounded : {diffuse f2 s : Float} → InRange (whole 0) (whole 10000) diffuse → Bounded most_brightness f2 → Bounded (whole 1) s → Bounded most_part (horizontal_irradiance diffuse f2 s)
unfolding horizontal_irradiance whole neg mul le
horizontal_bounded {diffuse} {f2} p q r =
    let diffuse-bounded : Bounded (whole 10000) diffuse = bounded p tt in
    let product : Bounded (whole (3 * 10 ^ 11)) (diffuse ⊗ f2) = mul_bounded diffuse-bounded q tt in
    mul_bounded product r tt

ground_bounded : {diffuse beam s reflectivity c : Float} → InRange (whole 0) (whole 10000) diffuse → InRange (whole 0) most_beam beam → InRange (whole 0) (whole 1) s → InRange (whole 0) (whole 1) reflectivity → Bounded (whole 1) c
    → Bounded most_part (ground_reflection diffuse beam s reflectivity c)
unfolding ground_reflection whole neg add sub mul div lt le
ground_bounded {diffuse} {beam} {s} {reflectivity} {c} p q r t u =
    let flat : InRange (whole 0) most_beam (beam ⊗ s) = mul_in q r tt tt in
    let light : InRange (whole 0) (whole (3 * 10 ^ 10)) (diffuse ⊕ beam ⊗ s) = add_in p flat tt in
    let back : InRange (whole 0) (whole (3 * 10 ^ 10)) ((diffuse ⊕ beam ⊗ s) ⊗ reflectivity) = mul_in light t tt tt in
    let back-bounded : Bounded (whole (3 * 10 ^ 10)) ((diffuse ⊕ beam ⊗ s) ⊗ reflectivity) = bounded back tt in
    let rest : Bounded (whole 2) (whole 1 ⊖ c) = sub_bounded (constant (whole 1) (whole 1) tt) u tt in
    let view : Bounded (whole 1) ((whole 1 ⊖ c) ⊘ whole 2) = div_bounded (whole 2) rest tt tt in
    mul_bounded back-bounded view tt

-- ---- the irradiance

abbrev pub most_irradiance : Float
most_irradiance = whole (2 * 10 ^ 13)

pub record IrradianceRange (parts : Irradiance) : Type 0 where
  pub direct : InRange (whole 0) most_irradiance parts.direct
  pub diffuse : Bounded most_irradiance parts.diffuse
  pub total : Bounded most_irradiance parts.total
  pub sky : Bounded most_part parts.sky
  pub circumsolar : InRange (whole 0) (whole (4 * 10 ^ 12)) parts.circumsolar
  pub horizontal : Bounded most_part parts.horizontal
  pub from_ground : Bounded most_part parts.from_ground

-- direct with the circumsolar part
direct_sum : {a b : Float} → InRange (whole 0) most_beam a → InRange (whole 0) (whole (4 * 10 ^ 12)) b → InRange (whole 0) (whole (41 * 10 ^ 11)) (a ⊕ b)
unfolding whole add le
direct_sum p q = add_in p q tt

-- diffuse without it and with the ground's reflection
diffuse_sum : {a b c d : Float} → Bounded most_part a → InRange (whole 0) (whole (4 * 10 ^ 12)) b → Bounded most_part c → Bounded most_part d
    → Bounded (whole (7 * 10 ^ 12)) (a ⊕ b ⊕ c ⊖ b ⊕ d)
unfolding whole neg add sub le
diffuse_sum {a} {b} {c} {d} p q r s =
    let first : InRange (neg most_part) (whole (5 * 10 ^ 12)) (a ⊕ b) = add_in (as_range p) q tt in
    let second : InRange (neg (whole (2 * 10 ^ 12))) (whole (6 * 10 ^ 12)) (a ⊕ b ⊕ c) = add_in first (as_range r) tt in
    let third : InRange (neg (whole (6 * 10 ^ 12))) (whole (6 * 10 ^ 12)) (a ⊕ b ⊕ c ⊖ b) = sub_in second q tt in
    let fourth : InRange (neg (whole (7 * 10 ^ 12))) (whole (7 * 10 ^ 12)) (a ⊕ b ⊕ c ⊖ b ⊕ d) = add_in third (as_range s) tt in
    record { from = fourth.from; to = fourth.to }

total_sum : {a b : Float} → InRange (whole 0) (whole (41 * 10 ^ 11)) a → Bounded (whole (7 * 10 ^ 12)) b → Bounded most_irradiance (a ⊕ b)
unfolding whole neg add le
total_sum {a} p q =
    let wide : Bounded (whole (41 * 10 ^ 11)) a = bounded p tt in
    add_bounded wide q tt

wider_direct : {a : Float} → InRange (whole 0) (whole (41 * 10 ^ 11)) a → InRange (whole 0) most_irradiance a
unfolding whole le
wider_direct r = widen r tt

wider_diffuse : {a : Float} → Bounded (whole (7 * 10 ^ 12)) a → Bounded most_irradiance a
unfolding whole neg le
wider_diffuse r = more_bounded r tt

-- the cosine of an angle of incidence
cosine_bounded : {degrees : Float} → InRange (whole 0) (whole 180) degrees → Bounded (whole 1) (cosine_of_degrees degrees)
unfolding cosine_of_degrees whole neg le
cosine_bounded {degrees} r =
    let wide : Bounded (whole 1000) degrees = bounded r tt in
    cosine_range (radians_bounded wide)

module _ {l d t o : SinCos} {sun : Hour} (latitude : UnitRange l) (declination : UnitRange d) (tilt : UnitRange t) (facing : UnitRange o) (known : SunRange sun) where
  pub irradiance_range : (conversion : Bool) {x diffuse direct reflectivity : Float} → InRange (whole 1300) (whole 1420) x → InRange (whole 0) (whole 10000) diffuse
      → InRange (whole 0) (whole 10000) direct → InRange (whole 0) (whole 1) reflectivity
      → IrradianceRange (irradiance_of t (incidence_of l d t o sun) (sky_of conversion sun x diffuse direct) sun.sin_altitude reflectivity)
  unfolding irradiance_of incidence_of incidence_by sky_of
  irradiance_range conversion {x} {diffuse} {direct} p q r s =
      let cos = cosine_bounded (incidence_range latitude declination tilt facing known.hour_angle_lem) in
      let ratio = ratio_in cos known.cos_zenith_lem in
      let beam = beam_in conversion r known.sin_altitude_lem known.sin_above in
      let delta = delta_in known.air_mass_lem q p in
      let e = clearness diffuse (direct_beam conversion direct sun.sin_altitude) sun.altitude in
      let f1 = f1_in e delta known.zenith in
      let f2 = f2_bounded e delta known.zenith in
      let circumsolar = circumsolar_in q f1 ratio in
      let first = direct_sum (direct_in beam cos) circumsolar in
      let sky = sky_bounded q f1 tilt.cos in
      let horizontal = horizontal_bounded q f2 tilt.sin in
      let from_ground = ground_bounded q beam known.sin_altitude_lem s tilt.cos in
      let second = diffuse_sum sky circumsolar horizontal from_ground in
      record {
        direct = wider_direct first;
        diffuse = wider_diffuse second;
        total = total_sum first second;
        sky = sky;
        circumsolar = circumsolar;
        horizontal = horizontal;
        from_ground = from_ground;
      }
