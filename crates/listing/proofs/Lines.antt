-- A piece of a listing, line by line: what the loop over its lines keeps.
use mathlib.Core.Path.{◌≡◌, refl, sym, ◌∙◌, ap}
use mathlib.Core.Bool.{Bool, true, false, cond, not}
use mathlib.Core.List.{List, [], ◌∷◌, ◌++◌, append-nil}
use Prim.Native.Nat.{ℕ, suc, ◌+◌, ◌≤◌, ◌<◌}
use native.Mathlib.Omega.{arith}
use native.Mathlib.Numerals.{add-one}
use borrow.Author.Tests.{eqb-true, eqb-false, ltb-false}
use lib.Dec.{eqb, ltb}
use lib.ListN.{length, get_or, take, drop, take-append-drop, length-drop, length-take}
use lib.Seq.{drop-cons, take_all}
use Rattle.std.proofs.Common.{Some, None}
use Rattle.std.proofs.lemmas.List.Quantifiers.{position-Some}
use Rattle.std.proofs.lemmas.Option.{cond_some, none-some}
use Rattle.std.specs.List.{position_or_len}
use Rattle.text.specs.Text.{filled, used_after, line_end}
use Rattle.listing.specs.declared.reader.Reader.{Reader}
use Rattle.listing.specs.Reading.{Reading, reading_of, with_part, line_over, line_start, printed, read_on, printed_on}
use Rattle.text.proofs.Pieces.{length_filled, nothing_filled, used_twice, filled_twice}
use Rattle.listing.proofs.Readings.{Unbroken, none, and_then, Passes, part_read, read_on_passes, printed_on_passes}

-- ---- a line of a piece

abbrev feed : ℕ → Bool
feed b = eqb b 10

-- no line feed stands before a line's end
unbroken : (l : List ℕ) → Unbroken (take (position_or_len feed l) l)
unbroken [] = none
unbroken (b ∷ l) = go (eqb b 10) refl (unbroken l)
  where
    go : (t : Bool) → eqb b 10 ≡ t → Unbroken (take (position_or_len feed l) l)
        → Unbroken (take (cond (not t) (1 + position_or_len feed l) 0) (b ∷ l))
    go true e u = none
    go false e u =
        let z : 1 + position_or_len feed l ≡ suc (position_or_len feed l) = omega arith in
        rw z (and_then (eqb-false b 10 e) u)

module _ (l : List ℕ) where
  pub last_line : line_end l ≡ None → Unbroken l
  last_line e =
      let h = ltb-false (position_or_len feed l) (length l) (go (ltb (position_or_len feed l) (length l)) e) in
      rw (take_all (position_or_len feed l) l h) at (unbroken l)
    where
      go : (b : Bool) → cond b (Some (position_or_len feed l)) None ≡ None → b ≡ false
      go true e = absurd (none-some (position_or_len feed l) (sym e))
      go false e = refl

  module _ (e : ℕ) (ends : line_end l ≡ Some e) where
    pub within : e < length l
    within = (position-Some feed l e 0 ends).0

    pub line : Unbroken (take e l)
    line = let z = cond_some (ltb (position_or_len feed l) (length l)) (position_or_len feed l) e ends in rw (← z.1) (unbroken l)

    pub parted : l ≡ take e l ++ 10 ∷ drop (e + 1) l
    parted =
        let p = position-Some feed l e 0 ends in
        sym (take-append-drop e l) ∙ ap (λ (m : List ℕ). take e l ++ m)
        (drop-cons l e 0 p.0 ∙ rw (eqb-true (get_or l e 0) 10 p.1, ← add-one e) refl)

-- ---- the loop

-- from a place of a piece on, all comes to the same as from its start
pub record Goes (piece list₀ : List ℕ) (used : ℕ) (r₀ : Reading) (list : List ℕ) (count : ℕ) (r : Reading) (rest : List ℕ) : Type 0 where
  pub inside : length rest ≤ length piece
  pub held : length r.held ≤ 170
  pub reading : read_on r rest ≡ read_on r₀ piece
  pub count_after : used_after list count (printed_on r rest) ≡ used_after list₀ used (printed_on r₀ piece)
  pub list_after : filled list count (printed_on r rest) ≡ filled list₀ used (printed_on r₀ piece)

-- a reader's 170 places hold no more
pub held_few : (r : Reader) → length r.line ≡ 170 → length (reading_of r).held ≤ 170
held_few r h = let z = length-take r.count r.line in omega (arith, z, h)

pub starts : (piece list : List ℕ) (used : ℕ) (r : Reading) → length r.held ≤ 170 → Goes piece list used r list used r piece
starts piece list used r h = record { inside = omega arith; held = h; reading = refl; count_after = refl; list_after = refl }

module _ {piece list₀ : List ℕ} {used : ℕ} {r₀ : Reading} {list : List ℕ} {count : ℕ} {r : Reading} {rest : List ℕ} (g : Goes piece list₀ used r₀ list count r rest) where
  module _ (e : ℕ) (ends : line_end rest ≡ Some e) where
    abbrev part : List ℕ
    part = take e rest

    abbrev next : List ℕ
    next = drop (e + 1) rest

    to_end : {A : Type 0} {f : Reading → List ℕ → A} → Passes f → f r rest ≡ f (with_part r part) (10 ∷ next)
    to_end {A} {f} 𝓟 = ap (f r) (parted rest e ends) ∙ part_read 𝓟 r (10 ∷ next) g.held (line rest e ends)

    read_line : read_on (line_over (with_part r part)) next ≡ read_on r rest
    unfolding read_on
    read_line = sym (to_end read_on_passes)

    printed_line : printed (with_part r part).stage (with_part r part).held ++ printed_on (line_over (with_part r part)) next ≡ printed_on r rest
    unfolding printed_on
    printed_line = sym (to_end printed_on_passes)

    -- a line has ended
    pub line_ends : (r' r'' : Reading) (out list' : List ℕ) (count' : ℕ) → r' ≡ with_part r (take e rest) → r'' ≡ line_over r' → out ≡ printed r'.stage r'.held
        → count' ≡ used_after list count out → list' ≡ filled list count out → Goes piece list₀ used r₀ list' count' r'' (drop (e + 1) rest)
    unfolding line_over line_start
    line_ends r' r'' out list' count' p q o n m =
        let over : r'' ≡ line_over (with_part r part) = q ∙ ap line_over p in
        let says : out ≡ printed (with_part r part).stage (with_part r part).held = o ∙ ap (λ (z : Reading). printed z.stage z.held) p in
        let all : out ++ printed_on r'' next ≡ printed_on r rest = rw (says, over) printed_line in
        record {
          inside = omega (arith, g.inside, length-drop (e + 1) rest);
          held = rw over (omega arith);
          reading = rw over (read_line ∙ g.reading);
          count_after = rw (n, m) (used_twice list count out (printed_on r'' next) ∙ ap (used_after list count) all ∙ g.count_after);
          list_after = rw (n, m) (filled_twice list count out (printed_on r'' next) ∙ ap (filled list count) all ∙ g.list_after);
        }

  -- the piece ends before the line does
  module _ (ends : line_end rest ≡ None) where
    goes_on : {A : Type 0} {f : Reading → List ℕ → A} → Passes f → f r rest ≡ f (with_part r rest) []
    goes_on {A} {f} 𝓟 = ap (f r) (sym (append-nil rest)) ∙ part_read 𝓟 r [] g.held (last_line rest ends)

    pub ends_reading : (r' : Reading) → r' ≡ with_part r rest → r' ≡ read_on r₀ piece
    unfolding read_on
    ends_reading r' p = p ∙ sym (goes_on read_on_passes) ∙ g.reading

    pub ends_count : count ≡ used_after list₀ used (printed_on r₀ piece)
    unfolding printed_on
    ends_count =
        let z : used_after list count [] ≡ used_after list₀ used (printed_on r₀ piece) = sym (ap (used_after list count) (goes_on printed_on_passes)) ∙ g.count_after in
        omega (arith, z)

    pub ends_list : list ≡ filled list₀ used (printed_on r₀ piece)
    unfolding printed_on
    ends_list = sym (ap (filled list count) (goes_on printed_on_passes) ∙ nothing_filled list count) ∙ g.list_after

    -- the list stays as long as it was
    pub ends_long : length list ≡ length list₀
    ends_long = ap length ends_list ∙ length_filled list₀ used (printed_on r₀ piece)
