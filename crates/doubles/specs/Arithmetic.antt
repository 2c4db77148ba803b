-- Rounded arithmetic at binary64, as every definition of the engine writes it: `x ⊕ y`, `x ⊖ y`, `x ⊗ y` and `x ⊘ y` are the
-- exact sum, difference, product and quotient, each rounded once to the nearest double, a tie to the even one.
-- A constant is written as its decimal, as a whole number, or by the bits of its double.
use Rattle.std.specs.Float.{binary64}
use Rattle.std.specs.Float.Ieee.{add, sub, mul, div, round, of_int, of_bits}
use Rattle.std.specs.Prelude.{ℕ, ◌^◌, false, pos, Float}

infixl 6 ◌⊕◌
infixl 6 ◌⊖◌
infixl 7 ◌⊗◌
infixl 7 ◌⊘◌
abbrev pub ◌⊕◌ : Float → Float → Float
x ⊕ y = add binary64 x y

abbrev pub ◌⊖◌ : Float → Float → Float
x ⊖ y = sub binary64 x y

abbrev pub ◌⊗◌ : Float → Float → Float
x ⊗ y = mul binary64 x y

abbrev pub ◌⊘◌ : Float → Float → Float
x ⊘ y = div binary64 x y

-- the double nearest to digits / 10 ^ places: `decimal 22984 3` is 22.984
unfoldable pub decimal : ℕ → ℕ → Float
unfolding round
decimal digits places = round binary64 false digits (10 ^ places)

-- the double nearest to a whole number
unfoldable pub whole : ℕ → Float
unfolding of_int
whole n = of_int binary64 (pos n)

-- the double of a bit pattern, as the paper gives the stand-ins' constants
unfoldable pub bits : ℕ → Float
unfolding of_bits
bits n = of_bits binary64 n
