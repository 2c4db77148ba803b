-- The table of days: stored record by record it is the definition's, and each day is read back from it as it was worked out.
-- Assumes nothing.
use mathlib.Core.Path.{◌≡◌, refl, sym, ap, ap₂, ◌∙◌, subst, subst₂}
use mathlib.Core.List.{List, ◌++◌}
use Prim.Native.Nat.{ℕ, zero, suc, ◌+◌, ◌-◌, ◌*◌, ◌/◌, ◌≤◌, ◌<◌}
use native.Mathlib.Omega.{arith}
use lib.ListN.{length, drop, get_or, length-append}
use lib.Seq.{sets, length-sets, sets-eq}
use lib.Dec.{ltb}
use lib.Ieee.{nan, binary64}
use lib.Ieee.Fits.{nan-fits, add-fits, sub-fits, mul-fits}
use Rattle.doubles.specs.Order.{Fits}
use Rattle.doubles.proofs.MinMax.{either_fits}
use Rattle.words.specs.Words.{bytes_of_doubles, word_count, double_at}
use Rattle.words.proofs.Stores.{sets_append, get_d_sets_before, get_d_sets_behind}
use Rattle.words.proofs.Laws.{double_same}
use Rattle.words.proofs.DoubleStores.{put_doubles, AllFit, length_put_doubles, stored_doubles, length_doubles, put_doubles_in}
use Rattle.days.specs.declared.Day.{Day}
use Rattle.days.specs.Day.{solar_declination, equation_of_time_on, extra_terrestrial_radiation_on, day_of}
use Rattle.days.proofs.Range.{day_in_range}
use Rattle.days.specs.Table.{day_doubles, day_records, day_table, with_day_table, day_at, put_day, DayInRange, HoldsDays}

-- ---- lengths

length_record : (day : Day) → length (bytes_of_doubles (day_doubles day)) ≡ 24
unfolding day_doubles
length_record day = length_doubles (day_doubles day)

length_records : (count n : ℕ) → length (day_records count n) ≡ 24 * count
unfolding day_records
length_records zero n = refl
length_records (suc count) n =
    length-append (bytes_of_doubles (day_doubles (day_of n))) (day_records count (n + 1)) ∙ omega (arith, length_record (day_of n), length_records count (n + 1))

-- ---- a record stored

module _ (l : List ℕ) (i : ℕ) (day : Day) where
  -- its three doubles, one behind the other
  day_doubles_lem : put_day l i day ≡ put_doubles l (3 * i) (day_doubles day)
  unfolding put_day put_doubles day_doubles
  day_doubles_lem =
      let second : 3 * i + 1 ≡ suc (3 * i) = omega arith in
      let third : 3 * i + 2 ≡ suc (suc (3 * i)) = omega arith in
      rw (second, third)

  pub length_put_day : length (put_day l i day) ≡ length l
  length_put_day = ap length day_doubles_lem ∙ length_put_doubles (day_doubles day) l (3 * i)

  put_record : 24 * i + 24 ≤ length l → put_day l i day ≡ sets l (24 * i) (bytes_of_doubles (day_doubles day))
  unfolding day_doubles word_count
  put_record h =
      let p : 8 * (3 * i) ≡ 24 * i = omega arith in
      day_doubles_lem ∙ put_doubles_in (day_doubles day) l (3 * i) (omega (arith, h)) ∙ ap (λ (k : ℕ). sets l k (bytes_of_doubles (day_doubles day))) p

-- ---- the records stored one by one

-- the first of so many records, then the rest
first_record : (count n p : ℕ) (l : List ℕ) → 24 * p + 24 ≤ length l
    → sets l (24 * p) (day_records (suc count) n) ≡ sets (put_day l p (day_of n)) (24 * (p + 1)) (day_records count (n + 1))
unfolding day_records
first_record count n p l h =
    let rest : List ℕ = day_records count (n + 1) in
    let k : 24 * p + length (bytes_of_doubles (day_doubles (day_of n))) ≡ 24 * (p + 1) = omega (arith, length_record (day_of n)) in
    sets_append l (24 * p) (bytes_of_doubles (day_doubles (day_of n))) rest ∙ ap₂ (λ (m : List ℕ) (a : ℕ). sets m a rest) (sym (put_record l p (day_of n) h)) k

-- in a loop: from the i-th on, what is left of the table
module _ (l : List ℕ) (i : ℕ) where
  pub record_next : i < 366 → 8784 ≤ length l
      → sets (put_day l i (day_of (i + 1))) (24 * (i + 1)) (day_records (366 - (i + 1)) (i + 1 + 1)) ≡ sets l (24 * i) (day_records (366 - i) (i + 1))
  record_next h room =
      let e : 366 - i ≡ suc (366 - (i + 1)) = omega (arith, h) in
      rw e (sym (first_record (366 - (i + 1)) (i + 1) i l (omega (arith, h, room))))

  pub records_done : 366 ≤ i → sets l (24 * i) (day_records (366 - i) (i + 1)) ≡ l
  unfolding day_records
  records_done h = let e : 366 - i ≡ 0 = omega (arith, h) in rw e

-- a list stored from the front on: the rest stays
over_front : (t l : List ℕ) (n : ℕ) → length t ≡ n → n ≤ length l → sets l 0 t ≡ t ++ drop n l
over_front t l n e h =
    let k : 0 + length t ≡ n = omega (arith, e) in
    sets-eq t l 0 (omega (arith, e, h)) ∙ ap (λ (m : ℕ). t ++ drop m l) k

pub table_whole : (l : List ℕ) → 8784 ≤ length l → sets l (24 * 0) (day_records (366 - 0) (0 + 1)) ≡ with_day_table l
unfolding with_day_table day_table
table_whole l h = over_front (day_records 366 1) l 8784 (length_records 366 1) h

-- ---- each day is read back

-- a day's values are doubles
day_fits : (n : ℕ) → AllFit (day_doubles (day_of n))
unfolding day_doubles day_of solar_declination equation_of_time_on extra_terrestrial_radiation_on
day_fits n = (add-fits binary64 _ _, (equation.holds, (mul-fits binary64 _ _, tt)))
  where
    equation : Fits (equation_of_time_on n)
    equation = unfold equation_of_time_on in (
        either_fits (ltb n 21) (record { holds = add-fits binary64 _ _ })
        (either_fits (ltb n 136) (record { holds = add-fits binary64 _ _ })
        (either_fits (ltb n 241) (record { holds = sub-fits binary64 _ _ })
        (either_fits (ltb n 336) (record { holds = sub-fits binary64 _ _ })
        (either_fits (ltb n 367) (record { holds = mul-fits binary64 _ _ }) (record { holds = nan-fits binary64 })))))
        )

-- a day stored is read back
stored_day : (l : List ℕ) (i : ℕ) (day : Day) → 24 * i + 24 ≤ length l → AllFit (day_doubles day) → day_at (put_day l i day) i ≡ day
unfolding day_at day_doubles word_count
stored_day l i day h f =
    let read : (j : ℕ) → j < 3 → double_at (put_day l i day) (3 * i + j) ≡ get_or (day_doubles day) j nan =
    λ j b. ap (λ (m : List ℕ). double_at m (3 * i + j)) (day_doubles_lem l i day) ∙ stored_doubles (day_doubles day) l (3 * i) nan (omega (arith, h)) f j b in
    let e : 3 * i ≡ 3 * i + 0 = omega arith in
    let first : double_at (put_day l i day) (3 * i) ≡ day.declination = ap (double_at (put_day l i day)) e ∙ read 0 (omega arith) in
    λ j. record { declination = first j; equation_of_time = read 1 (omega arith) j; extra_terrestrial_radiation = read 2 (omega arith) j }

-- records stored behind it leave it
kept_day_lem : (m : List ℕ) (p k : ℕ) (vs : List ℕ) → 24 * p + 24 ≤ k → day_at (sets m k vs) p ≡ day_at m p
unfolding day_at
kept_day_lem m p k vs h =
    let same : (w : ℕ) → w < 3 * p + 3 → double_at (sets m k vs) w ≡ double_at m w =
    λ w l. double_same (sets m k vs) m w (unfold word_count in ap (λ (n : ℕ). n / 8) (length-sets m k vs)) (λ _ j e. get_d_sets_before m j k vs (omega (arith, e, l, h))) in
    λ j. record {
      declination = same (3 * p) (omega arith) j;
      equation_of_time = same (3 * p + 1) (omega arith) j;
      extra_terrestrial_radiation = same (3 * p + 2) (omega arith) j;
    }

-- so many records stored from the p-th on are read back
records_read : (count n p i : ℕ) (l : List ℕ) → 24 * (p + count) ≤ length l → i < count → day_at (sets l (24 * p) (day_records count n)) (p + i) ≡ day_of (n + i)
records_read zero n p i l h b = absurd (omega arith)
records_read (suc count) n p zero l h b =
    let e : p + 0 ≡ p = omega arith in
    let f : n + 0 ≡ n = omega arith in
    rw (first_record count n p l (omega (arith, h)), e, f)
    (kept_day_lem (put_day l p (day_of n)) p (24 * (p + 1)) (day_records count (n + 1)) (omega arith) ∙ stored_day l p (day_of n) (omega (arith, h)) (day_fits n))
records_read (suc count) n p (suc i) l h b =
    let e : p + suc i ≡ p + 1 + i = omega arith in
    let f : n + suc i ≡ n + 1 + i = omega arith in
    rw (first_record count n p l (omega (arith, h)), e, f) (records_read count (n + 1) (p + 1) i (put_day l p (day_of n)) (omega (arith, h, length_put_day l p (day_of n))) (omega (arith, b)))

pub table_read : (l : List ℕ) → 8784 ≤ length l → HoldsDays (with_day_table l)
table_read l h = record {
  day = λ i b.
      let p : 0 + i ≡ i = omega arith in
      let n : 1 + i ≡ i + 1 = omega arith in
      ap (λ (m : List ℕ). day_at m i) (sym (table_whole l h)) ∙ subst₂ (λ (a : ℕ) (d : ℕ). day_at (sets l (24 * 0) (day_records 366 1)) a ≡ day_of d) p n (records_read 366 1 0 i l (omega (arith, h)) b);
}

-- what is read there are numbers
pub table_numbers : (l : List ℕ) → 8784 ≤ length l → (i : ℕ) → i < 366 → DayInRange (day_at (with_day_table l) i)
table_numbers l h i b = subst DayInRange (sym ((table_read l h).day i b)) (day_in_range (i + 1) (omega (arith, b)))

-- ---- what the table leaves

module _ (l : List ℕ) (h : 8784 ≤ length l) where
  pub length_with_table : length (with_day_table l) ≡ length l
  length_with_table = ap length (sym (table_whole l h)) ∙ length-sets l (24 * 0) (day_records 366 1)

  -- a byte behind it stays as it was
  pub byte_behind : (b : ℕ) → 8784 ≤ b → get_or (with_day_table l) b 0 ≡ get_or l b 0
  byte_behind b k =
      ap (λ (m : List ℕ). get_or m b 0) (sym (table_whole l h))
      ∙ get_d_sets_behind l b (24 * 0) (day_records 366 1) (omega (arith, k, length_records 366 1))
