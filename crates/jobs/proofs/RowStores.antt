-- A row stored in the results list: its six doubles are read back, and all else stays as it was. Assumes nothing.
use mathlib.Core.Path.{◌≡◌, ap, ◌∙◌}
use mathlib.Core.Logic.{◌≢◌}
use mathlib.Core.List.{List, [], ◌∷◌}
use Prim.Native.Nat.{ℕ, suc, ◌+◌, ◌*◌, ◌/◌, ◌≤◌, ◌<◌}
use native.Mathlib.Omega.{arith}
use lib.ListN.{length, get_or}
use lib.Ieee.{Float, nan}
use Rattle.doubles.specs.Order.{Fits}
use Rattle.words.specs.Words.{word_count, double_at}
use Rattle.words.proofs.DoubleStores.{put_doubles, AllFit, length_put_doubles, word_count_put_doubles, byte_put_doubles, double_put_doubles, stored_doubles}
use Rattle.jobs.specs.declared.answers.Row.{Row}
use Rattle.jobs.specs.Rows.{put_row}

-- a row of doubles, as every row is that a step gives
pub record RowFits (row : Row) : Type 0 where
  pub altitude : Fits row.altitude
  pub azimuth : Fits row.azimuth
  pub direct : Fits row.direct
  pub diffuse : Fits row.diffuse
  pub total : Fits row.total
  pub factor : Fits row.factor

-- the six doubles of the i-th row are those of a row
pub record Holding (results : List ℕ) (i : ℕ) (row : Row) : Type 0 where
  pub altitude : double_at results (6 * i) ≡ row.altitude
  pub azimuth : double_at results (6 * i + 1) ≡ row.azimuth
  pub direct : double_at results (6 * i + 2) ≡ row.direct
  pub diffuse : double_at results (6 * i + 3) ≡ row.diffuse
  pub total : double_at results (6 * i + 4) ≡ row.total
  pub factor : double_at results (6 * i + 5) ≡ row.factor

-- in their order
unfoldable row_doubles : Row → List Float
row_doubles row = row.altitude ∷ row.azimuth ∷ row.direct ∷ row.diffuse ∷ row.total ∷ row.factor ∷ []

module _ (results : List ℕ) (i : ℕ) (row : Row) where
  -- six doubles, one behind the other
  row_doubles_lem : put_row results i row ≡ put_doubles results (6 * i) (row_doubles row)
  unfolding put_row put_doubles row_doubles
  row_doubles_lem =
      let two : 6 * i + 1 ≡ suc (6 * i) = omega arith in
      let three : 6 * i + 2 ≡ suc (suc (6 * i)) = omega arith in
      let four : 6 * i + 3 ≡ suc (suc (suc (6 * i))) = omega arith in
      let five : 6 * i + 4 ≡ suc (suc (suc (suc (6 * i)))) = omega arith in
      let six : 6 * i + 5 ≡ suc (suc (suc (suc (suc (6 * i))))) = omega arith in
      rw (two, three, four, five, six)

  pub length_put_row : length (put_row results i row) ≡ length results
  length_put_row = ap length row_doubles_lem ∙ length_put_doubles (row_doubles row) results (6 * i)

  pub word_count_put_row : word_count (put_row results i row) ≡ word_count results
  word_count_put_row = ap word_count row_doubles_lem ∙ word_count_put_doubles (row_doubles row) results (6 * i)

  -- a byte of another row stays as it was
  pub byte_put_row : (b : ℕ) → b / 8 / 6 ≢ i → get_or (put_row results i row) b 0 ≡ get_or results b 0
  unfolding row_doubles
  byte_put_row b o =
      ap (λ (l : List ℕ). get_or l b 0) row_doubles_lem ∙ byte_put_doubles (row_doubles row) results (6 * i) b (λ n h e. o (omega (arith, h, e)))

  -- and so does a double
  pub double_put_row : (k : ℕ) → k / 6 ≢ i → double_at (put_row results i row) k ≡ double_at results k
  unfolding row_doubles
  double_put_row k o =
      ap (λ (l : List ℕ). double_at l k) row_doubles_lem ∙ double_put_doubles (row_doubles row) results (6 * i) k (λ n h e. o (omega (arith, h, e)))

  module _ (room : 6 * i + 6 ≤ word_count results) (fits : RowFits row) where
    -- a row is read back
    pub stored_row_lem : Holding (put_row results i row) i row
    unfolding row_doubles
    stored_row_lem =
        let all : AllFit (row_doubles row) =
        (fits.altitude.holds, (fits.azimuth.holds, (fits.direct.holds, (fits.diffuse.holds, (fits.total.holds, (fits.factor.holds, tt)))))) in
        let read : (j : ℕ) → j < 6 → double_at (put_row results i row) (6 * i + j) ≡ get_or (row_doubles row) j nan =
        λ j h. ap (λ (l : List ℕ). double_at l (6 * i + j)) row_doubles_lem ∙ stored_doubles (row_doubles row) results (6 * i) nan room all j h in
        let e : 6 * i ≡ 6 * i + 0 = omega arith in
        record {
          altitude = ap (double_at (put_row results i row)) e ∙ read 0 (omega arith);
          azimuth = read 1 (omega arith);
          direct = read 2 (omega arith);
          diffuse = read 3 (omega arith);
          total = read 4 (omega arith);
          factor = read 5 (omega arith);
        }

  -- another row that was there still is
  pub kept_row : (k : ℕ) (other : Row) → k ≢ i → Holding results k other → Holding (put_row results i row) k other
  kept_row k other o h = record {
    altitude = double_put_row (6 * k) (omega arith) ∙ h.altitude;
    azimuth = double_put_row (6 * k + 1) (omega arith) ∙ h.azimuth;
    direct = double_put_row (6 * k + 2) (omega arith) ∙ h.direct;
    diffuse = double_put_row (6 * k + 3) (omega arith) ∙ h.diffuse;
    total = double_put_row (6 * k + 4) (omega arith) ∙ h.total;
    factor = double_put_row (6 * k + 5) (omega arith) ∙ h.factor;
  }
