-- A step's row: stored in the results list, read there, and added to a sum.
use Rattle.std.specs.Prelude.{List, ℕ, ◌+◌, ◌*◌, Float}
use Rattle.doubles.specs.Arithmetic.{◌⊕◌, ◌⊗◌}
use Rattle.words.specs.Words.{double_at, put_double}
use Rattle.jobs.specs.declared.answers.Row.{Row}

-- the i-th row is six doubles, from word 6·i on
unfoldable pub put_row : List ℕ → ℕ → Row → List ℕ
put_row results i row =
    let k = 6 * i in
    let altitude = put_double results k row.altitude in
    let azimuth = put_double altitude (k + 1) row.azimuth in
    let direct = put_double azimuth (k + 2) row.direct in
    let diffuse = put_double direct (k + 3) row.diffuse in
    let total = put_double diffuse (k + 4) row.total in
    put_double total (k + 5) row.factor

unfoldable pub stored_row : List ℕ → ℕ → Row
stored_row results i = record {
  altitude = double_at results (6 * i);
  azimuth = double_at results (6 * i + 1);
  direct = double_at results (6 * i + 2);
  diffuse = double_at results (6 * i + 3);
  total = double_at results (6 * i + 4);
  factor = double_at results (6 * i + 5);
}

-- the sum with a row's factor times direct times step in hours, in this order: watt-hours per square metre
unfoldable pub with_row : Float → Float → Row → Float
with_row step sum row = sum ⊕ (row.factor ⊗ row.direct) ⊗ step
