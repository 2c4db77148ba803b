-- The place where the walk ends is one of the list's, and what stands there is the sector that has the sun. Assumes nothing.
use mathlib.Core.Path.{◌≡◌, refl, sym, ap, ◌∙◌, subst}
use mathlib.Core.Bool.{Bool, true, false, cond}
use mathlib.Core.List.{List, [], ◌∷◌}
use Prim.Native.Nat.{ℕ, zero, suc, ◌+◌, ◌≤◌, ◌<◌}
use native.Mathlib.Nat.{le_of_suc-le-suc, not-suc-le-zero}
use native.Mathlib.Omega.{arith}
use lib.ListN.{length, get_or, take}
use lib.Ieee.{Float, lt, ne}
use Rattle.std.specs.Prelude.{Ok, Err, Result}
use Rattle.std.specs.Result.{result_unwrap_or}
use Rattle.objects.specs.declared.answers.Refusal.{Refusal}
use Rattle.objects.specs.declared.answers.Refusal.TheVariants as refusal
use Rattle.objects.specs.declared.sectors.ShadingSegment.{ShadingSegment}
use Rattle.objects.specs.Records.{no_segment, sector_count, sectors_of, sector_places}
use Rattle.objects.proofs.Places.{sectors_taken, table_record}
use Rattle.segments.specs.declared.FoundSegment.{FoundSegment}
use Rattle.segments.specs.FoundSegment.{of_found, found_at, segment_found}
use Rattle.segments.specs.Segments.{holds_azimuth, visit, place_from, place_of, sector_at, segment_in, segment_of}

-- a place is one of n from the i-th on
abbrev OneOf : ℕ → ℕ → Result ℕ Refusal → Type 0
OneOf i n (Ok j) = j < i + n
OneOf i n (Err r) = Unit {0}

longer : (i n : ℕ) (p : Result ℕ Refusal) → OneOf (i + 1) n p → OneOf i (suc n) p
longer i n (Ok j) h = omega (arith, h)
longer i n (Err r) h = tt

module _ (azimuth : Float) where
  visit_one : (i n : ℕ) (s : ShadingSegment) (rest : Result ℕ Refusal) → OneOf (i + 1) n rest → OneOf i (suc n) (visit azimuth i s rest)
  unfolding visit
  visit_one i n s rest h = go (lt s.end360 s.start360) (holds_azimuth azimuth s)
    where
      go : (b c : Bool) → OneOf i (suc n) (cond b (Err refusal.Turned) (cond c (Ok i) rest))
      go true c = tt
      go false true = omega arith
      go false false = longer i n rest h

  from_one : (last : Float) (i : ℕ) (l : List ShadingSegment) → OneOf i (length l) (place_from azimuth last i l)
  unfolding place_from
  from_one last i [] = tt
  from_one last i (s ∷ rest) = go (ne last s.start360) (visit azimuth i s (place_from azimuth s.end360 (i + 1) rest)) (visit_one i (length rest) s _ (from_one s.end360 (i + 1) rest))
    where
      go : (b : Bool) (p : Result ℕ Refusal) → OneOf i (suc (length rest)) p → OneOf i (suc (length rest)) (cond b (Err refusal.Gap) p)
      go true p h = tt
      go false p h = h

  place_one : (l : List ShadingSegment) → OneOf 0 (length l) (place_of azimuth l)
  unfolding place_of
  place_one [] = tt
  place_one (s ∷ rest) = visit_one 0 (length rest) s _ (from_one s.end360 1 rest)

  pub place_within : (l : List ShadingSegment) (i : ℕ) → place_of azimuth l ≡ Ok i → i < length l
  place_within l i e = let h : i < 0 + length l = subst (OneOf 0 (length l)) e (place_one l) in omega (arith, h)

sector_there : (l : List ShadingSegment) (i : ℕ) (d : ShadingSegment) → i < length l → sector_at l i ≡ Ok (get_or l i d)
unfolding sector_at
sector_there [] i d h = absurd (omega (arith, h))
sector_there (s ∷ rest) zero d h = refl
sector_there (s ∷ rest) (suc i) d h = sector_there rest i d (le_of_suc-le-suc h)

-- the record at the place has the sun
pub place_record : (azimuth : Float) (l : List ShadingSegment) (i : ℕ) (d : ShadingSegment) → place_of azimuth l ≡ Ok i → segment_of azimuth l ≡ Ok (get_or l i d)
unfolding segment_of segment_in
place_record azimuth l i d e = ap (segment_in l) e ∙ sector_there l i d (place_within azimuth l i e)

-- and the sector that is found is the one that has the sun
pub sector_found : (azimuth : Float) (l : List ShadingSegment) (r : Result FoundSegment Refusal) → r ≡ segment_found azimuth l
    → segment_of azimuth l ≡ of_found (λ (f : FoundSegment). f.segment) r
unfolding segment_found segment_of segment_in
sector_found azimuth l r e = go (place_of azimuth l) refl ∙ ap (of_found (λ (f : FoundSegment). f.segment)) (sym e)
  where
    go : (p : Result ℕ Refusal) → place_of azimuth l ≡ p → segment_in l p ≡ of_found (λ (f : FoundSegment). f.segment) (of_found (found_at l no_segment) p)
    go (Ok i) h = sector_there l i no_segment (place_within azimuth l i h)
    go (Err r) h = refl

-- ---- of the first n sectors of a table

taken_within : (n i : ℕ) (l : List ShadingSegment) → i < length (take n l) → i < n
taken_within zero i l h = absurd (not-suc-le-zero h)
taken_within (suc n) i [] h = absurd (not-suc-le-zero h)
taken_within (suc n) zero (s ∷ rest) h = omega arith
taken_within (suc n) (suc i) (s ∷ rest) h = omega (arith, taken_within n i rest (le_of_suc-le-suc h))

taken_record : (n i : ℕ) (l : List ShadingSegment) (d : ShadingSegment) → i < length (take n l) → get_or (take n l) i d ≡ get_or l i d
taken_record zero i l d h = absurd (not-suc-le-zero h)
taken_record (suc n) i [] d h = absurd (not-suc-le-zero h)
taken_record (suc n) zero (s ∷ rest) d h = refl
taken_record (suc n) (suc i) (s ∷ rest) d h = taken_record n i rest d (le_of_suc-le-suc h)

-- the place where the walk ends is one of the first n
pub place_taken : (azimuth : Float) (n i : ℕ) (l : List ShadingSegment) → place_of azimuth (take n l) ≡ Ok i → i < n
place_taken azimuth n i l e = taken_within n i l (place_within azimuth (take n l) i e)

-- and so of the table's, 0 standing for none
pub index_taken : (azimuth : Float) (n m : ℕ) (l : List ShadingSegment) → n ≤ m → 0 < m → result_unwrap_or (place_of azimuth (take n l)) 0 < m
index_taken azimuth n m l few some = go (place_of azimuth (take n l)) refl
  where
    go : (p : Result ℕ Refusal) → place_of azimuth (take n l) ≡ p → result_unwrap_or p 0 < m
    go (Ok i) e = omega (arith, few, place_taken azimuth n i l e)
    go (Err r) e = some

pub record_taken : (azimuth : Float) (n i : ℕ) (l : List ShadingSegment) → place_of azimuth (take n l) ≡ Ok i
    → (d : ShadingSegment) → segment_of azimuth (take n l) ≡ Ok (get_or l i d)
record_taken azimuth n i l e d = place_record azimuth (take n l) i d e ∙ ap Ok (taken_record n i l d (place_within azimuth (take n l) i e))

-- the walk along a table of a list's sectors, and the sector where it ends
pub found_in_table : (azimuth : Float) (l : List ℕ) (n : ℕ) (places : List ShadingSegment) (p : Result ℕ Refusal) (d : ShadingSegment) → n ≡ sector_count l → n ≤ 36
    → places ≡ sector_places l n → p ≡ place_of azimuth (take n places) → of_found (found_at places d) p ≡ segment_found azimuth (sectors_of l)
unfolding segment_found
found_in_table azimuth l n places p d count few read ends = go p ends ∙ ap (of_found (found_at (sectors_of l) no_segment)) place_is
  where
    place_is : p ≡ place_of azimuth (sectors_of l)
    place_is = ends ∙ ap (place_of azimuth) (sectors_taken l n places count few read)

    fits : result_unwrap_or (place_of azimuth (take n places)) 0 < 36
    fits = index_taken azimuth n 36 places few (omega arith)

    go : (q : Result ℕ Refusal) → q ≡ place_of azimuth (take n places) → of_found (found_at places d) q ≡ of_found (found_at (sectors_of l) no_segment) q
    go (Ok i) e =
        let h : i < 36 = subst (λ (q : Result ℕ Refusal). result_unwrap_or q 0 < 36) (sym e) fits in
        λ k. Ok (record { place = i; segment = table_record l n i places d count h read k })
    go (Err r) e = refl

-- so the sector at the place in the table has the sun
pub sector_in_table : (azimuth : Float) (l : List ℕ) (n i : ℕ) (places : List ShadingSegment) (d : ShadingSegment) → n ≡ sector_count l → n ≤ 36
    → places ≡ sector_places l n → place_of azimuth (take n places) ≡ Ok i → segment_of azimuth (sectors_of l) ≡ Ok (get_or places i d)
sector_in_table azimuth l n i places d count few read ends =
    sector_found azimuth (sectors_of l) _ (found_in_table azimuth l n places (Ok i) d count few read (sym ends))
