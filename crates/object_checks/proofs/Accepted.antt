-- What an accepted surface, sector list or window list has: as many records as there is room for, and every value in its range.
use mathlib.Core.Path.{◌≡◌, refl, sym, ap, subst}
use mathlib.Core.Logic.{◌⊎◌, inl, inr}
use mathlib.Core.Bool.{Bool, true, false, ◌&&◌, ◌||◌}
use mathlib.Core.List.Memᴰ
use mathlib.Core.List.{List, Memᴰ}
use Prim.Native.Nat.{ℕ, zero, suc, ◌+◌, ◌*◌, ◌/◌, ◌%◌, ◌≤◌, ◌<◌}
use native.Mathlib.Decide.{dec_lt}
use native.Mathlib.Omega.{arith}
use lib.Dec.{T, leb, eqb, leb→le, eqb→eq}
use lib.ListN.{length}
use lib.Ieee.{Float, nan, is_nan, neg, lt, le, eq}
use Rattle.doubles.specs.Arithmetic.{whole, decimal}
use Rattle.doubles.specs.Order.{InRange}
use Rattle.doubles.specs.Ranges.{within, above_zero}
use Rattle.doubles.proofs.Order.{right_number}
use Rattle.doubles.proofs.Ranges.{both_of, within_range}
use Rattle.objects.specs.declared.surface.Surface.{Surface}
use Rattle.words.specs.Lists.{first_fine}
use Rattle.objects.specs.Surface.{surface_fine}
use Rattle.object_checks.specs.Checks.{records_fine}
use Rattle.objects.specs.Records.{records_from}

-- ---- truth values

pub either_of : (a b : Bool) → T (a || b) → T a ⊎ T b
either_of true b t = inl tt
either_of false b t = inr t

-- ---- ranges

-- NaN is in no range; −0.0 counts as 0, so that it is in a range from 0 and in none above 0
pub nan-not_within : (lowest highest : Float) → T (within lowest highest nan) → ⊥
unfolding is_nan
nan-not_within lowest highest t = (right_number (within_range lowest highest nan t).from).holds

pub minus_zero_within : T (within (whole 0) (whole 180) (neg (whole 0)))
unfolding within whole neg le lt eq
minus_zero_within = tt

pub minus_zero-not_above : (highest : Float) → T (above_zero highest (neg (whole 0))) → ⊥
unfolding above_zero whole neg lt
minus_zero-not_above highest t = (both_of (lt (whole 0) (neg (whole 0))) (le (neg (whole 0)) highest) t).0

-- ---- an accepted surface

module _ (s : Surface) (t : T (surface_fine s)) where
  tests : T (within (whole 0) (whole 180) s.tilt) × T (within (whole 0) (whole 360) s.orientation) × T (within (whole 0) (whole 1000) s.base_height)
      × T (within (decimal 1 3) (whole 1000) s.height) × T (within (decimal 1 3) (whole 1000) s.width)
  unfolding surface_fine
  tests =
      let a = within (whole 0) (whole 180) s.tilt in
      let b = within (whole 0) (whole 360) s.orientation in
      let d = within (whole 0) (whole 1000) s.base_height in
      let e = within (decimal 1 3) (whole 1000) s.height in
      let f = within (decimal 1 3) (whole 1000) s.width in
      let p = both_of (a && b && d && e) f t in
      let q = both_of (a && b && d) e p.0 in
      let r = both_of (a && b) d q.0 in
      let u = both_of a b r.0 in
      (u.0, u.1, r.1, q.1, p.1)

  pub tilt_range : InRange (whole 0) (whole 180) s.tilt
  tilt_range = within_range (whole 0) (whole 180) s.tilt tests.0

  pub orientation_range : InRange (whole 0) (whole 360) s.orientation
  orientation_range = within_range (whole 0) (whole 360) s.orientation tests.1

  pub base_height_range : InRange (whole 0) (whole 1000) s.base_height
  base_height_range = within_range (whole 0) (whole 1000) s.base_height tests.2

  pub height_range : InRange (decimal 1 3) (whole 1000) s.height
  height_range = within_range (decimal 1 3) (whole 1000) s.height tests.3

  pub width_range : InRange (decimal 1 3) (whole 1000) s.width
  width_range = within_range (decimal 1 3) (whole 1000) s.width tests.4

-- ---- an accepted list of records

pub first_fine_lem : (fine : ℕ → Bool) (n i : ℕ) → T (first_fine fine n) → i < n → T (fine i)
unfolding first_fine
first_fine_lem fine zero i t h = absurd (omega arith)
first_fine_lem fine (suc n) i t h =
    let p = both_of (fine n) (first_fine fine n) t in
    elim (dec_lt i n) [
      | yes g ↦ first_fine_lem fine n i p.1 g
      | no g ↦ let e : n ≡ i = omega arith in subst (λ (j : ℕ). T (fine j)) e p.0
    ]

module _ (size most : ℕ) (fine : List ℕ → ℕ → Bool) (l : List ℕ) (t : T (records_fine size most fine l)) where
  whole_and_few : T (eqb (length l % size) 0 && leb (length l) (most * size)) × T (first_fine (fine l) (length l / size))
  unfolding records_fine
  whole_and_few = both_of (eqb (length l % size) 0 && leb (length l) (most * size)) (first_fine (fine l) (length l / size)) t

  pub whole_records_lem : length l % size ≡ 0
  whole_records_lem = eqb→eq (length l % size) 0 (both_of (eqb (length l % size) 0) (leb (length l) (most * size)) whole_and_few.0).0

  pub few_records : length l ≤ most * size
  few_records = leb→le (length l) (most * size) (both_of (eqb (length l % size) 0) (leb (length l) (most * size)) whole_and_few.0).1

  pub record_fine : (i : ℕ) → i < length l / size → T (fine l i)
  record_fine i h = first_fine_lem (fine l) (length l / size) i whole_and_few.1 h

-- ---- lists of records

module _ {Record : Type 0} (place : ℕ → Record) where
  pub length_records : (n i : ℕ) → length (records_from place i n) ≡ n
  unfolding records_from
  length_records zero i = refl
  length_records (suc n) i = ap suc (length_records n (suc i))

  -- what holds of every place holds of every member
  pub member_records : (P : Record → Type 0) (n i : ℕ) → ((j : ℕ) → j < i + n → P (place j)) → (o : Record) → Memᴰ o (records_from place i n) → P o
  unfolding records_from
  member_records P zero i h o m = absurd (Memᴰ.not-nil m)
  member_records P (suc n) i h o m =
      elim (Memᴰ.cases_cons m) [
        | inl e ↦ subst P (sym e) (h i (omega arith))
        | inr k ↦ member_records P n (suc i) (λ j g. h j (omega arith)) o k
      ]
