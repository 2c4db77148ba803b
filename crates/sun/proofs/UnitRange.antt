-- Sines and cosines from −1 to 1: those of every angle within 1000 degrees. Assumes nothing.
use lib.Ieee.{Float, neg, mul, div, le}
use Rattle.doubles.specs.Arithmetic.{◌⊗◌, ◌⊘◌, decimal, whole}
use Rattle.doubles.specs.Functions.{to_radians, pi}
use Rattle.doubles.specs.Order.{Bounded}
use Rattle.doubles.proofs.Intervals.{mul_bounded, constant}
use Rattle.angles.specs.declared.SinCos.{SinCos}
use Rattle.angles.proofs.Laws.{sine_range, cosine_range}
use Rattle.sun.specs.Hour.{sin_cos_of}

pub record UnitRange (x : SinCos) : Type 0 where
  pub sin : Bounded (whole 1) x.sin
  pub cos : Bounded (whole 1) x.cos

pub unit_product : {x y : Float} → Bounded (whole 1) x → Bounded (whole 1) y → Bounded (whole 1) (x ⊗ y)
unfolding whole mul le
unit_product p q = mul_bounded p q tt

pub radians_bounded : {degrees : Float} → Bounded (whole 1000) degrees → Bounded (whole 64) (to_radians degrees)
unfolding to_radians whole decimal neg mul div le
radians_bounded h = mul_bounded h (constant (decimal 175 4) (pi ⊘ whole 180) tt) tt

pub unit_range : {degrees : Float} → Bounded (whole 1000) degrees → UnitRange (sin_cos_of degrees)
unfolding sin_cos_of
unit_range h = record { sin = sine_range (radians_bounded h); cos = cosine_range (radians_bounded h) }
