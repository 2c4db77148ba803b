-- The square root of a double as it is computed, over whole numbers. What it is, said without computing: `IsRoot`.
-- `leb` and `ltb` test ≤ and <, `cond t x y` is x where the test t is passed and y where not, `suc n` is n + 1, and / drops the rest.
use Rattle.std.specs.Prelude.{ℕ, zero, suc, ◌+◌, ◌-◌, ◌*◌, ◌/◌, ◌^◌, true, false, cond, leb, ltb, Float}
use Rattle.std.specs.Float.{nan, inf, fin}
use Rattle.std.specs.Float.Ieee.{up, down, size, odd}

-- The largest whole number whose square is at most n, for n below 4 ^ d, by its d binary digits:
-- the root of n / 4 is all of them but the last, which is 1 where the square allows it.
unfoldable pub whole_root : ℕ → ℕ → ℕ
whole_root zero n = 0
whole_root (suc d) n = let r = 2 * whole_root d (n / 4) in cond (leb (suc r * suc r) n) (suc r) r

-- The whole number nearest to the exact root of n, for n below 4 ^ d. With r the root's whole part, the root lies above r + 1/2 where n - r² is
-- above r. There is no tie: (r + 1/2)² is r² + r + 1/4, which is no whole number.
unfoldable pub nearest_root : ℕ → ℕ → ℕ
unfolding whole_root
nearest_root d n = let r = whole_root d n in cond (ltb r (n - r * r)) (suc r) r

-- The double nearest to the root of a · 2^-1074, for a above 0. `size a` is how many binary digits a has, so √a has k before its point, and the
-- root of n = a · 4^53 / 4^k has 53, as many as a double has. n is a whole number for each a that is a double in units of 2^-1074, the smallest
-- one. With r the whole number nearest to √n, the root is r · 2^k / 2^(53 + 537): `odd 53 false r k 590` is the double r · 2^k / 2^590 without a
-- minus sign, r having at most 53 digits.
unfoldable pub units_root : ℕ → Float
unfolding size nearest_root odd
units_root a = let k = (size a + 1) / 2 in odd 53 false (nearest_root 53 (a * 4 ^ 53 / 4 ^ k)) k 590

-- The root of a double: NaN for NaN and below zero, +∞ for +∞, a zero for itself, and else the nearest double. `fin s m e` is m · 2^e, with a
-- minus sign where s is true, and `up e / down e` is 2^e as a fraction of whole numbers: so it is m · 2^e · 2^1074 units of 2^-1074.
unfoldable pub square_root : Float → Float
unfolding units_root
square_root nan = nan
square_root (inf false) = inf false
square_root (inf true) = nan
square_root (fin s zero e) = fin s zero e
square_root (fin false (suc m) e) = units_root (suc m * up e * 2 ^ 1074 / down e)
square_root (fin true (suc m) e) = nan
