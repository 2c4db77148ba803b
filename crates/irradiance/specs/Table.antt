-- Table 8 of ISO 52010-1: the brightness coefficients, eight rows of six, and which row holds at a clearness.
use Rattle.std.specs.Prelude.{◌≡◌, true, false, cond, List, [], ◌∷◌, ℕ, suc, ◌≤◌, ◌<◌, T, get_or, Float}
use Rattle.std.specs.Float.{nan}
use Rattle.std.specs.Float.Ieee.{neg, lt, is_nan}
use Rattle.doubles.specs.Arithmetic.{decimal}

-- ---- the row

-- Rows 0 to 6 hold below these limits of clearness; row 7 has none.
-- 1.065, 1.23, 1.5, 1.95, 2.8, 4.5, 6.2
unfoldable pub limits : List Float
unfolding decimal
limits = decimal 1065 3 ∷ decimal 123 2 ∷ decimal 15 1 ∷ decimal 195 2 ∷ decimal 28 1 ∷ decimal 45 1 ∷ decimal 62 1 ∷ []

-- how many limits stand before the first that is above x
unfoldable pub first_above : List Float → Float → ℕ
first_above [] x = 0
first_above (l ∷ ls) x = cond (lt x l) 0 (suc (first_above ls x))

-- The row at a clearness, 0 to 7, by one search: the contract of `table_row` is an equation with it.
unfoldable pub table_row : Float → ℕ
unfolding limits first_above
table_row e = first_above limits e

-- What the row at clearness e must be, said without a search: the first whose limit is above e, and row 7 where none is.
-- `table_row_is_row` (proofs/TableRow.antt) proves it of `table_row`, and `row_unique` there that no other number meets it.
-- (`get_or limits j nan` is the limit of row j; `lt` and `is_nan` are the tests `<` and `x != x` of the language, and `T` says that a test is
-- passed.)
pub record IsTableRow (e : Float) (row : ℕ) : Type 0 where
  pub within : row ≤ 7
  -- e is below the limit of no row before it, and below its own, where it has one
  pub not_before : (j : ℕ) → j < row → lt e (get_or limits j nan) ≡ false
  pub below : row < 7 → lt e (get_or limits row nan) ≡ true
  -- NaN is below no limit
  pub of_nan : T (is_nan e) → row ≡ 7

-- ---- the coefficients

-- F11, F12, F13, F21, F22, F23
unfoldable pub coefficients : List (List Float)
unfolding decimal neg
coefficients =
    -- −0.008, 0.588, −0.062, −0.06, 0.072, −0.022
    (neg (decimal 8 3) ∷ decimal 588 3 ∷ neg (decimal 62 3) ∷ neg (decimal 6 2) ∷ decimal 72 3 ∷ neg (decimal 22 3) ∷ [])
    -- 0.13, 0.683, −0.151, −0.019, 0.066, −0.029
    ∷ (decimal 13 2 ∷ decimal 683 3 ∷ neg (decimal 151 3) ∷ neg (decimal 19 3) ∷ decimal 66 3 ∷ neg (decimal 29 3) ∷ [])
    -- 0.33, 0.487, −0.221, 0.055, −0.064, −0.026
    ∷ (decimal 33 2 ∷ decimal 487 3 ∷ neg (decimal 221 3) ∷ decimal 55 3 ∷ neg (decimal 64 3) ∷ neg (decimal 26 3) ∷ [])
    -- 0.568, 0.187, −0.295, 0.109, −0.152, −0.014
    ∷ (decimal 568 3 ∷ decimal 187 3 ∷ neg (decimal 295 3) ∷ decimal 109 3 ∷ neg (decimal 152 3) ∷ neg (decimal 14 3) ∷ [])
    -- 0.873, −0.392, −0.362, 0.226, −0.462, 0.001
    ∷ (decimal 873 3 ∷ neg (decimal 392 3) ∷ neg (decimal 362 3) ∷ decimal 226 3 ∷ neg (decimal 462 3) ∷ decimal 1 3 ∷ [])
    -- 1.132, −1.237, −0.412, 0.288, −0.823, 0.056
    ∷ (decimal 1132 3 ∷ neg (decimal 1237 3) ∷ neg (decimal 412 3) ∷ decimal 288 3 ∷ neg (decimal 823 3) ∷ decimal 56 3 ∷ [])
    -- 1.06, −1.6, −0.359, 0.264, −1.127, 0.131
    ∷ (decimal 106 2 ∷ neg (decimal 16 1) ∷ neg (decimal 359 3) ∷ decimal 264 3 ∷ neg (decimal 1127 3) ∷ decimal 131 3 ∷ [])
    -- 0.678, −0.327, −0.25, 0.156, −1.377, 0.251
    ∷ (decimal 678 3 ∷ neg (decimal 327 3) ∷ neg (decimal 25 2) ∷ decimal 156 3 ∷ neg (decimal 1377 3) ∷ decimal 251 3 ∷ [])
    ∷ []

-- those of the row at a clearness
unfoldable pub coefficients_at : Float → List Float
coefficients_at e = get_or coefficients (table_row e) []
