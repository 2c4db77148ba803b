-- The terms in which the laws of doubles are stated. Each is a record of one test, so that a proof finds it by its name.
-- Zeros of either sign are level, an infinity lies beyond every finite double, and a NaN stands in no relation.
use Rattle.std.specs.Prelude.{not, T, is_nan, Float}
use Rattle.std.specs.Float.{binary64}
use Rattle.std.specs.Float.Ieee.{neg, lt, le, eq, fits}
use Rattle.doubles.specs.Arithmetic.{whole}
use Rattle.std.specs.Float.Ieee.Scale.{finite}

infix 4 ◌≼◌
infix 4 ◌≺◌
infix 4 ◌≈◌
-- x <= y
pub record ◌≼◌ (x y : Float) : Type 0 where
  pub holds : T (le x y)

-- x < y
pub record ◌≺◌ (x y : Float) : Type 0 where
  pub holds : T (lt x y)

-- level: each is at most the other
pub record ◌≈◌ (x y : Float) : Type 0 where
  pub below : x ≼ y
  pub above : y ≼ x

-- from low to high
pub record InRange (low high x : Float) : Type 0 where
  pub from : low ≼ x
  pub to : x ≼ high

-- no larger than bound in size: from −bound to bound
pub record Bounded (bound x : Float) : Type 0 where
  pub from : neg bound ≼ x
  pub to : x ≼ bound

-- no NaN
pub record Number (x : Float) : Type 0 where
  pub holds : T (not (is_nan x))

-- neither a NaN nor an infinity
pub record Finite (x : Float) : Type 0 where
  pub holds : T (finite x)

-- a double of the format binary64, written in the one way: what every parameter, constant and result of an operation is
pub record Fits (x : Float) : Type 0 where
  pub holds : T (fits binary64 x)

-- a zero of either sign
pub record Zero (z : Float) : Type 0 where
  pub holds : T (eq z (whole 0))

pub record NonZero (x : Float) : Type 0 where
  pub holds : T (not (eq x (whole 0)))
