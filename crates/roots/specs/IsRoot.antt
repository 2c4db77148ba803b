-- The whole claim about the square root: what y must be to be the root of a double x, whichever double x is, said without any way to compute it.
-- `square_root_is_root` (proofs/Theorems.antt) proves it of `square_root` (Root.antt), the definition that the contract of `sqrt` names, and
-- `root_unique` there that no other double meets it.
--
-- The kit's terms in it: `nan` is the one NaN, `inf false` is +∞, and `fin false 0 (pos 0)`, which is 0 · 2^0 without a minus sign, is +0.0.
-- `is_nan`, `lt` and `eq` are the tests `x != x`, `<` and `==` of the language, `positive x` tests that x is finite and above zero, and `T` says
-- that a test is passed. `fits binary64 y` tests that y is a double. `HasValue x false a c` says that x is finite, has no minus sign, and is
-- exactly a / c. ℕ are the whole numbers from 0 on.
use Rattle.std.specs.Prelude.{ℕ, ◌+◌, ◌*◌, ◌^◌, ◌<◌, ◌≡◌, false, ◌||◌, pos, T, Float}
use Rattle.std.specs.Float.{nan, inf, fin, binary64}
use Rattle.std.specs.Float.Ieee.{fits, is_nan, lt, eq}
use Rattle.std.specs.Float.Ieee.Exact.{HasValue}
use Rattle.std.specs.Float.Ieee.Positive.{positive}

-- x is exactly a units of 2^-1074. That is the smallest double above zero, and every finite double is a whole number of it.
abbrev pub Units : Float → ℕ → Type 0
Units x a = HasValue x false a (2 ^ 1074)

-- The double y is nearer to the exact root of x than any other. x is a units and y is b, so the root is √(a · 2^1074) units. Let z be any
-- other double, c units. The middle between y and z is (b + c) / 2, and the root lies on y's side of it: above the middle where z is below y,
-- below it where z is above. Doubled and squared that speaks of whole numbers. Both are strict, so there is no tie to break. (What is below
-- zero is no matter: zero is nearer.)
pub record Nearest (x y : Float) : Type 0 where
  pub a : ℕ
  pub b : ℕ
  pub operand : Units x a
  pub root : Units y b
  pub double : T (fits binary64 y)
  pub above : (z : Float) (c : ℕ) → T (fits binary64 z) → Units z c → c < b → (b + c) * (b + c) < 4 * (a * 2 ^ 1074)
  pub below : (z : Float) (c : ℕ) → T (fits binary64 z) → Units z c → b < c → 4 * (a * 2 ^ 1074) < (b + c) * (b + c)

-- y is the root of x. For each double x one line of the four applies: x is a NaN or below zero, a zero, +∞, or finite and above zero.
pub record IsRoot (x y : Float) : Type 0 where
  pub none : T (is_nan x || lt x (fin false 0 (pos 0))) → y ≡ nan
  pub of_zero : T (eq x (fin false 0 (pos 0))) → y ≡ x
  pub of_infinity : x ≡ inf false → y ≡ inf false
  pub nearest : T (positive x) → Nearest x y
