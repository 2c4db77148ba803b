-- The list for a day is a part of one of the two lists, and of accepted lists it is one of them whole. Assumes nothing.
use mathlib.Core.Path.{◌≡◌, refl, sym, ap, ◌∙◌, subst, subst₂}
use mathlib.Core.Bool.{Bool, true, false, not, cond, beq}
use mathlib.Core.List.{List}
use Prim.Native.Nat.{ℕ, ◌+◌, ◌*◌, ◌/◌, ◌≤◌}
use native.Mathlib.Decide.{dec_lt}
use native.Mathlib.Omega.{arith}
use borrow.Author.Tests.{le-leb, lt-leb}
use lib.Dec.{T, leb}
use lib.ListN.{length, take}
use Rattle.std.proofs.Math.Bool.{or-true}
use lib.Seq.{length-take-le, take_all}
use Rattle.words.specs.Words.{word_count}
use Rattle.objects.specs.declared.sectors.ShadingSegment.{ShadingSegment}
use Rattle.objects.specs.Records.{sector_count, sector_places, sectors_of}
use Rattle.objects.proofs.Places.{sectors_taken}
use Rattle.object_checks.specs.Checks.{sector_record_fine, sectors_fine}
use Rattle.object_checks.proofs.Accepted.{whole_records_lem}
use Rattle.object_checks.proofs.AcceptedSectors.{sector_count_lem}
use Rattle.seasons.specs.Seasons.{in_leaf, whole_records, season_records, sectors_for}
use Rattle.seasons.specs.declared.table.SeasonTable.{SeasonTable}
use Rattle.seasons.specs.Table.{season_table, table_sectors}
use Rattle.seasons.specs.Parts.{PartOf, PartsOfLists}

-- the first n bytes of a list that has them are n
pub taken_length : (l : List ℕ) (n : ℕ) → n ≤ length l → n ≡ length (take n l)
taken_length l n h = sym (length-take-le n l h)

-- ---- accepted lists

-- an accepted list has whole records only
pub all_whole : (l : List ℕ) → T (sectors_fine l) → whole_records l ≡ l
unfolding whole_records sectors_fine
all_whole l t = let e = whole_records_lem 216 36 sector_record_fine l t in take_all (length l / 216 * 216) l (omega (arith, e))

module _ (summer winter : List ℕ) (s : T (sectors_fine summer)) (w : T (sectors_fine winter)) where
  -- the list of a season is one of the two
  season_list : (is_summer : Bool) → season_records is_summer summer winter ≡ cond is_summer summer winter
  unfolding season_records
  season_list true = all_whole summer s
  season_list false = all_whole winter w

  -- and so is that for a day
  pub list_of_day : (first last day : ℕ) (is_summer : Bool) → in_leaf first last day ≡ is_summer
      → cond is_summer summer winter ≡ sectors_for summer winter first last day
  unfolding sectors_for
  list_of_day first last day is_summer e = rw e (sym (season_list is_summer))

  -- so what holds of both holds of it
  pub of_season : (P : List ℕ → Type 0) → P summer → P winter → (is_summer : Bool) → P (season_records is_summer summer winter)
  of_season P p q is_summer =
      subst P (sym (season_list is_summer)) (elim is_summer as (λ (b : Bool). P (cond b summer winter)) [ true ↦ p | false ↦ q ])

  -- and of the list for a day
  pub of_day_lem : (P : List ℕ → Type 0) → P summer → P winter → (first last day : ℕ) → P (sectors_for summer winter first last day)
  unfolding sectors_for
  of_day_lem P p q first last day = of_season P p q (in_leaf first last day)

  pub day_fine : (first last day : ℕ) → T (sectors_fine (sectors_for summer winter first last day))
  day_fine = of_day_lem (λ (l : List ℕ). T (sectors_fine l)) s w

-- what holds of two summer lists and of two winter lists holds of the two lists for a day
pub of_two_days : (s w s' w' : List ℕ) → T (sectors_fine s) → T (sectors_fine w) → T (sectors_fine s') → T (sectors_fine w') → (P : List ℕ → List ℕ → Type 0)
    → P s s' → P w w' → (first last day : ℕ) → P (sectors_for s w first last day) (sectors_for s' w' first last day)
unfolding sectors_for
of_two_days s w s' w' fs fw fs' fw' P p q first last day =
    let is_summer = in_leaf first last day in
    subst₂ P (sym (season_list s w fs fw is_summer)) (sym (season_list s' w' fs' fw' is_summer))
    (elim is_summer as (λ (b : Bool). P (cond b s w) (cond b s' w')) [ true ↦ p | false ↦ q ])

-- ---- any lists

whole_bytes : (l : List ℕ) → length l / 216 * 216 ≡ length (whole_records l)
unfolding whole_records
whole_bytes l = taken_length l (length l / 216 * 216) (omega arith)

part_of : (l : List ℕ) → PartOf l (whole_records l)
unfolding sector_count word_count
part_of l =
    let e = whole_bytes l in
    record {
      within = omega (arith, e);
      same_bytes = unfold whole_records in ap (λ (n : ℕ). take n l) e;
      records_alone = omega (arith, e);
      all_records = omega (arith, e);
    }

pub parts_of_lists : PartsOfLists
unfolding sectors_for season_records
parts_of_lists summer winter first last day = (
  λ e. rw e (part_of summer),
  λ e. rw e (part_of winter),
)

-- one list named twice: on every day it is that list
pub one_list : (l : List ℕ) (first last day : ℕ) → sectors_for l l first last day ≡ whole_records l
unfolding sectors_for season_records
one_list l first last day = elim (in_leaf first last day) as (λ (b : Bool). cond b (whole_records l) (whole_records l) ≡ whole_records l) [ true ↦ refl | false ↦ refl ]

-- ---- the table that is kept

-- a test `a != b` of two booleans that fails
same_bool : (a b : Bool) → not (beq a b) ≡ false → a ≡ b
same_bool true true e = refl
same_bool false false e = refl
same_bool true false e = e
same_bool false true e = sym e

-- what its walk goes along is the list for the day
module _ (summer winter : List ℕ) (s : T (sectors_fine summer)) (w : T (sectors_fine winter)) (is_summer : Bool) (kept : SeasonTable)
    (k : kept ≡ season_table is_summer summer winter) where
  pub few_kept : kept.count ≤ 36
  unfolding season_table
  few_kept = subst (λ (t : SeasonTable). t.count ≤ 36) (sym k) (of_season summer winter s w (λ (l : List ℕ). sector_count l ≤ 36) (sector_count_lem summer s) (sector_count_lem winter w) is_summer)

  pub kept_sectors : take kept.count kept.places ≡ sectors_of (season_records is_summer summer winter)
  unfolding season_table
  kept_sectors = sectors_taken (season_records is_summer summer winter) kept.count kept.places (ap (λ (t : SeasonTable). t.count) k) few_kept
      (ap (λ (t : SeasonTable). t.places) k ∙ ap (sector_places (season_records is_summer summer winter)) (sym (ap (λ (t : SeasonTable). t.count) k)))

  pub kept_table_sectors : table_sectors kept ≡ sectors_of (season_records is_summer summer winter)
  unfolding table_sectors
  kept_table_sectors = kept_sectors

  -- it says which season it is of
  of_its_season : kept ≡ season_table kept.summer summer winter
  unfolding season_table
  of_its_season = k ∙ ap (λ (b : Bool). season_table b summer winter) (sym (ap (λ (t : SeasonTable). t.summer) k))

  -- where a day's season is the one that it is of, it is that of the day
  pub still_right : (today : Bool) → not (beq today kept.summer) ≡ false → kept ≡ season_table today summer winter
  still_right today e = of_its_season ∙ ap (λ (b : Bool). season_table b summer winter) (sym (same_bool today kept.summer e))

-- the table read from the list for a day
pub season_read : (summer winter : List ℕ) (first last day : ℕ) (is_summer : Bool) (part : List ℕ) (count : ℕ) (places : List ShadingSegment)
    → is_summer ≡ in_leaf first last day → part ≡ sectors_for summer winter first last day → count ≡ sector_count part → places ≡ sector_places part count
    → record { summer = is_summer; count = count; places = places } ≡ season_table (in_leaf first last day) summer winter
unfolding season_table sectors_for
season_read summer winter first last day is_summer part count places b p n t =
    let m = n ∙ ap sector_count p in
    λ x. record { summer = b x; count = m x; places = (t ∙ λ y. sector_places (p y) (m y)) x }

-- ---- days

-- the first leaf day right behind the last: every day is summer
pub always_summer : (last day : ℕ) → in_leaf (last + 1) last day ≡ true
unfolding in_leaf
always_summer last day =
    rw (lt-leb (last + 1) last (omega arith))
    (elim (dec_lt last day) [
      | yes g ↦ rw (le-leb (last + 1) day (omega (arith, g))) refl
      | no g ↦ rw (le-leb day last (omega (arith, g))) (or-true (leb (last + 1) day))
    ])
