-- The values of a line, as the loop that reads them comes to them.
use mathlib.Core.Path.{◌≡◌, refl, sym, ◌∙◌, ap, ap₂}
use mathlib.Core.Bool.{Bool, true, false, cond, ◌&&◌}
use mathlib.Core.Logic.{◌≢◌}
use mathlib.Core.List.{List, [], ◌∷◌, ◌++◌, map}
use Prim.Native.Nat.{ℕ, ◌+◌, ◌*◌, ◌<◌}
use native.Mathlib.Numerals.{add-one}
use native.Mathlib.Omega.{arith}
use borrow.Author.Tests.{eq-eqb, ne_eqb}
use lib.Ieee.{Float, binary64, of_bits}
use lib.ListN.{length, get_or, set, take, length-map, length-set}
use lib.Seq.{take-suc-set, take_all}
use Rattle.std.proofs.Common.{Option, Some, None, eqb, zero-add}
use Rattle.std.proofs.lemmas.List.{take_more, get_or-map}
use Rattle.std.proofs.lemmas.List.Folds.{list_all_at, list_all_more}
use Rattle.std.proofs.lemmas.List.FromFn.{get_or-range_with_len}
use Rattle.std.proofs.lemmas.Option.{cond_some, none-some}
use Rattle.std.specs.List.{list_all, range_with_len}
use Rattle.std.specs.Option.{is_some, unwrap_or}
use Rattle.hexadecimal.specs.Hexadecimal.{digits_at}
use Rattle.lines.specs.Line.{value_fine, value_at, parted, line_fine, values}

-- the first k are fine, and stand in the first k places of a list
pub record Read (l : List ℕ) (list : List Float) (k : ℕ) : Type 0 where
  pub long : length list ≡ 10
  pub fine : list_all (value_fine l) (take k (range_with_len 0 10)) ≡ true
  pub there : take k list ≡ take k (map (value_at l) (range_with_len 0 10))

-- one place more of a list of places
fine_more : (p : ℕ → Bool) (ks : List ℕ) (k : ℕ) → k < length ks → get_or ks k 0 ≡ k → list_all p (take k ks) ≡ true → p k ≡ true
    → list_all p (take (k + 1) ks) ≡ true
fine_more p ks k h e a b = list_all_more p ks k 0 h ∙ rw (e, a, b) refl

there_more : (f : ℕ → Float) (ks : List ℕ) (list : List Float) (k : ℕ) (x : Float) → k < length list → k < length ks → get_or ks k 0 ≡ k
    → take k list ≡ take k (map f ks) → x ≡ f k → take (k + 1) (set list k x) ≡ take (k + 1) (map f ks)
there_more f ks list k x h i e a b =
    let n : k < length (map f ks) = rw length-map i in
    rw (add-one k, take-suc-set list k x h) (ap₂ (λ (l : List Float) (y : Float). l ++ y ∷ []) a (b ∙ ap f (sym e) ∙ sym (get_or-map f ks k 0 (f 0) i))
    ∙ sym (take_more (map f ks) k (f 0) n) ∙ rw (add-one k) refl)

not_first : (a b : Bool) → b ≡ false → (x : Option (List Float)) → cond (a && b) x None ≡ None
not_first true b h x = rw h refl
not_first false b h x = refl

not_last : (a b c : Bool) → c ≡ false → (x : Option (List Float)) → cond (a && (b && c)) x None ≡ None
not_last true b c h x = not_first b c h x
not_last false b c h x = refl

whole : (a b c : Bool) (x y : List Float) → a ≡ true → b ≡ true → c ≡ true → y ≡ x → Some y ≡ cond (a && (b && c)) (Some x) None
whole a b c x y p q r e = rw (p, q, r, e) refl

module _ (l : List ℕ) where
  pub not_long : length l ≢ 169 → values l ≡ None
  unfolding values line_fine
  not_long h = rw (ne_eqb (length l) 169 h)

  pub not_parted : list_all (parted l) (range_with_len 0 9) ≡ false → values l ≡ None
  unfolding values line_fine
  not_parted h = not_last (eqb (length l) 169) (list_all (value_fine l) (range_with_len 0 10)) (list_all (parted l) (range_with_len 0 9)) h _

  pub not_read : (k : ℕ) → k < 10 → digits_at l (17 * k) ≡ None → values l ≡ None
  unfolding values line_fine value_fine
  not_read k h e =
      let at : get_or (range_with_len 0 10) k 0 ≡ k = get_or-range_with_len 0 10 k 0 h ∙ zero-add k in
      let p : value_fine l (get_or (range_with_len 0 10) k 0) ≡ false = ap (value_fine l) at ∙ ap is_some e in
      let all : list_all (value_fine l) (range_with_len 0 10) ≡ false = list_all_at (value_fine l) (range_with_len 0 10) k 0 h p in
      not_first (eqb (length l) 169) (list_all (value_fine l) (range_with_len 0 10) && list_all (parted l) (range_with_len 0 9))
      (ap (λ (b : Bool). b && list_all (parted l) (range_with_len 0 9)) all) _

  module _ (list : List Float) (k : ℕ) (q : Read l list k) where
    pub one_read : (w : ℕ) (x : Float) → k < 10 → digits_at l (17 * k) ≡ Some w → x ≡ of_bits binary64 w → Read l (set list k x) (k + 1)
    unfolding value_fine value_at
    one_read w x i e f =
        let h : k < length list = omega (arith, q.long) in
        let at : get_or (range_with_len 0 10) k 0 ≡ k = get_or-range_with_len 0 10 k 0 i ∙ zero-add k in
        record {
          long = length-set list k x ∙ q.long;
          fine = fine_more (value_fine l) (range_with_len 0 10) k i at q.fine (ap is_some e);
          there = there_more (value_at l) (range_with_len 0 10) list k x h i at q.there (f ∙ ap (λ (o : Option ℕ). of_bits binary64 (unwrap_or o 0)) (sym e));
        }

    pub all_read : k ≡ 10 → length l ≡ 169 → list_all (parted l) (range_with_len 0 9) ≡ true → Some list ≡ values l
    unfolding values line_fine
    all_read e h s =
        let a : list_all (value_fine l) (range_with_len 0 10) ≡ true = rw e at q.fine in
        let t : take 10 list ≡ map (value_at l) (range_with_len 0 10) = rw e at q.there in
        whole (eqb (length l) 169) (list_all (value_fine l) (range_with_len 0 10)) (list_all (parted l) (range_with_len 0 9)) (map (value_at l) (range_with_len 0 10)) list
        (eq-eqb (length l) 169 h) a s (sym (take_all 10 list (omega (arith, q.long))) ∙ t)

  -- what the answer's definition asks of them
  pub found : (v : List Float) → values l ≡ Some v → (line_fine l ≡ true) × (map (value_at l) (range_with_len 0 10) ≡ v)
  unfolding values
  found v e = cond_some (line_fine l) (map (value_at l) (range_with_len 0 10)) v e

  pub not_found : values l ≡ None → line_fine l ≡ false
  unfolding values
  not_found e = go (line_fine l) (map (value_at l) (range_with_len 0 10)) e
    where
      go : (b : Bool) (x : List Float) → cond b (Some x) None ≡ None → b ≡ false
      go true x e = absurd (none-some x (sym e))
      go false x e = refl
