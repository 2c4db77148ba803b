-- What `append` leaves at the front of a list: as much of the bytes before and of the part as the list holds.
use mathlib.Core.Path.{◌≡◌, refl, sym, ◌∙◌, ap, ap₂}
use mathlib.Core.Bool.{Bool, true, false}
use mathlib.Core.List.{List, [], ◌++◌, append-nil, append_assoc}
use Prim.Native.Nat.{ℕ, ◌+◌, ◌-◌, ◌≤◌, min}
use native.Mathlib.Omega.{arith}
use borrow.Author.Tests.{leb-true, leb-false}
use borrow.Rule.Slice.PartMut.{put_mid}
use lib.Dec.{leb}
use lib.ListN.{length, take, drop, length-append}
use lib.Seq.{paste, paste-zero, length-paste, take-paste, drop-paste, drop-drop, take_all, take-length, take-append-add, take-append-le, take-append_seam, length-take-le}
use Rattle.text.specs.Text.{moved, filled, used_after}

-- a front that reaches past the end is the whole
take_min : (l : List ℕ) (n : ℕ) → take (min (length l) n) l ≡ take n l
take_min l n = go (leb (length l) n) refl
  where
    go : (b : Bool) → leb (length l) n ≡ b → take (min (length l) n) l ≡ take n l
    go true e =
        let h = leb-true (length l) n e in
        let z : min (length l) n ≡ length l = omega (arith, h) in
        ap (λ (m : ℕ). take m l) z ∙ take-length l ∙ sym (take_all n l h)
    go false e =
        let h = leb-false (length l) n e in
        let z : min (length l) n ≡ n = omega (arith, h) in
        ap (λ (m : ℕ). take m l) z

-- the first k bytes of a list are the first n, where k is n or the list's length, whichever is less
pub front : (l : List ℕ) (n k : ℕ) → k ≡ min n (length l) → take k l ≡ take n l
front l n k e = let z : k ≡ min (length l) n = omega (arith, e) in ap (λ (m : ℕ). take m l) z ∙ take_min l n

module _ (d : List ℕ) (at : ℕ) (p : List ℕ) where
  room_left : at ≤ length d → take (used_after d at p) (filled d at p) ≡ take (length d) (take at d ++ p)
  room_left h =
      let front : length (take at d) ≡ at = length-take-le at d h in
      let room : at + (length d - at) ≡ length d = omega (arith, h) in
      let fits : moved d at p ≤ length p = omega arith in
      take-paste d at p (moved d at p) h fits
      ∙ ap (λ (l : List ℕ). take at d ++ l) (take_min p (length d - at))
      ∙ sym (take-append-add (take at d) p (length d - at))
      ∙ ap (λ (n : ℕ). take n (take at d ++ p)) (ap (λ (n : ℕ). n + (length d - at)) front ∙ room)

  pub none_moved : length d ≤ at → moved d at p ≡ 0
  none_moved h = omega (arith, h)

  -- nothing is left of the part
  no_room : length d ≤ at → take (used_after d at p) (filled d at p) ≡ take (length d) (take at d ++ p)
  no_room h =
      ap (λ (n : ℕ). take (at + n) (paste d at p n)) (none_moved h)
      ∙ ap (take (at + 0)) (sym (paste-zero d at p))
      ∙ take_all (at + 0) d (omega (arith, h))
      ∙ sym (ap (λ (l : List ℕ). take (length d) (l ++ p)) (take_all at d h) ∙ take-append_seam d p)

  pub kept : take (used_after d at p) (filled d at p) ≡ take (length d) (take at d ++ p)
  kept = go (leb at (length d)) refl
    where
      go : (b : Bool) → leb at (length d) ≡ b → take (used_after d at p) (filled d at p) ≡ take (length d) (take at d ++ p)
      go true e = room_left (leb-true at (length d) e)
      go false e = let h = leb-false at (length d) e in no_room (omega (arith, h))

  -- with no room for more, nothing changes
  pub unchanged : length d ≤ at → d ≡ filled d at p
  unchanged h = paste-zero d at p ∙ ap (paste d at p) (sym (none_moved h))

  -- the list stays as long as it was
  pub length_filled : length (filled d at p) ≡ length d
  length_filled = go (leb at (length d)) refl
    where
      go : (b : Bool) → leb at (length d) ≡ b → length (filled d at p) ≡ length d
      go true e =
          let h = leb-true at (length d) e in
          let few : used_after d at p ≤ length d = omega (arith, h) in
          let fits : moved d at p ≤ length p = omega arith in
          length-paste d at p (moved d at p) few fits
      go false e = let h = leb-false at (length d) e in ap length (sym (unchanged (omega (arith, h))))

  as_long : (l : List ℕ) → l ≡ filled d at p → length l ≡ length d
  as_long l e = ap length e ∙ length_filled

  -- so many bytes can be lent of the list
  pub used_length : (n : ℕ) (l : List ℕ) → n ≡ used_after d at p → l ≡ filled d at p → at ≤ length d → n ≡ length (take n l)
  used_length n l e f h = let same = as_long l f in sym (length-take-le n l (omega (arith, e, h, same)))

  -- as many bytes of the part copied into their places
  pub copied : (k n : ℕ) (ys : List ℕ) → n ≡ moved d at p → k ≡ n → ys ≡ take n p → put_mid at k d ys ≡ filled d at p
  copied k n ys e f g =
      ap₂ (λ (i : ℕ) (l : List ℕ). put_mid at i d l) f g
      ∙ ap (λ (l : List ℕ). take at d ++ (take n p ++ l)) (drop-drop n at d)
      ∙ sym (append_assoc (take at d) (take n p) (drop (at + n) d))
      ∙ ap (paste d at p) e

-- nothing put in
pub nothing_filled : (d : List ℕ) (at : ℕ) → filled d at [] ≡ d
nothing_filled d at = let z : moved d at [] ≡ 0 = omega arith in ap (paste d at []) z ∙ sym (paste-zero d at [])

-- ---- two parts put in, one after the other

module _ (d : List ℕ) (at : ℕ) (p q : List ℕ) where
  -- as many bytes of both as there is room for
  moved_twice : moved d at p + moved (filled d at p) (used_after d at p) q ≡ moved d at (p ++ q)
  moved_twice = let same = length_filled d at p in let both = length-append p q in omega (arith, same, both)

  pub used_twice : used_after (filled d at p) (used_after d at p) q ≡ used_after d at (p ++ q)
  used_twice = let z = moved_twice in omega (arith, z)

  -- the first n of two parts, where n is not more than the first part's length or nothing is taken of the second
  fronts : (n m : ℕ) → n ≡ min (length p) (length d - at) → (length d - at ≤ length p → m ≡ 0) → take n p ++ take m q ≡ take (n + m) (p ++ q)
  fronts n m e none = go (leb (length p) (length d - at)) refl
    where
      go : (b : Bool) → leb (length p) (length d - at) ≡ b → take n p ++ take m q ≡ take (n + m) (p ++ q)
      go true k =
          let h = leb-true (length p) (length d - at) k in
          let z : n ≡ length p = omega (arith, h, e) in
          ap (λ (i : ℕ). take i p ++ take m q) z
          ∙ ap (λ (l : List ℕ). l ++ take m q) (take-length p)
          ∙ sym (ap (λ (i : ℕ). take (i + m) (p ++ q)) z ∙ take-append-add p q m)
      go false k =
          let h = leb-false (length p) (length d - at) k in
          let z : m ≡ 0 = none (omega (arith, h)) in
          let y : n + m ≡ n = omega (arith, z) in
          ap (λ (i : ℕ). take n p ++ take i q) z
          ∙ append-nil (take n p)
          ∙ sym (ap (λ (i : ℕ). take i (p ++ q)) y ∙ take-append-le n p q (omega (arith, e)))

  twice : at ≤ length d → filled (filled d at p) (used_after d at p) q ≡ filled d at (p ++ q)
  twice h =
      let n = moved d at p in
      let m = moved (filled d at p) (used_after d at p) q in
      let fits : n ≤ length p = omega arith in
      let same = length_filled d at p in
      let sum : at + n + m ≡ at + (n + m) = omega arith in
      let rest = drop (at + n + m) d in
      ap (λ (l : List ℕ). l ++ take m q ++ drop (at + n + m) (filled d at p)) (take-paste d at p n h fits)
      ∙ ap (λ (l : List ℕ). take at d ++ take n p ++ take m q ++ l) (sym (drop-drop m (at + n) (filled d at p)) ∙ ap (drop m) (drop-paste d at p n h fits) ∙ drop-drop m (at + n) d)
      ∙ ap (λ (l : List ℕ). l ++ rest) (append_assoc (take at d) (take n p) (take m q))
      ∙ ap (λ (l : List ℕ). take at d ++ l ++ rest) (fronts n m refl (λ k. omega (arith, k, same)))
      ∙ ap (λ (i : ℕ). take at d ++ take (n + m) (p ++ q) ++ drop i d) sum
      ∙ ap (paste d at (p ++ q)) moved_twice

  pub filled_twice : filled (filled d at p) (used_after d at p) q ≡ filled d at (p ++ q)
  filled_twice = go (leb at (length d)) refl
    where
      go : (b : Bool) → leb at (length d) ≡ b → filled (filled d at p) (used_after d at p) q ≡ filled d at (p ++ q)
      go true e = twice (leb-true at (length d) e)
      go false e =
          let h = leb-false at (length d) e in
          let same = length_filled d at p in
          sym (unchanged (filled d at p) (used_after d at p) q (omega (arith, h, same)))
          ∙ sym (unchanged d at p (omega (arith, h)))
          ∙ unchanged d at (p ++ q) (omega (arith, h))

-- as two calls leave it
pub both_filled : (d : List ℕ) (at : ℕ) (p q w l m : List ℕ) (n k : ℕ) → n ≡ used_after d at p → l ≡ filled d at p → k ≡ used_after l n q → m ≡ filled l n q
    → p ++ q ≡ w → (k ≡ used_after d at w) × (m ≡ filled d at w)
both_filled d at p q w l m n k e f g h j =
    (g ∙ rw (e, f) (used_twice d at p q) ∙ ap (used_after d at) j, h ∙ rw (e, f) (filled_twice d at p q) ∙ ap (filled d at) j)
