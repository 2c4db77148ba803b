-- The code's walk, one sector after the other: what is left of the list comes to the same place as the whole. Assumes nothing.
use Rattle.std.proofs.Common.{◌≡◌, cond, not, ◌&&◌, eqb, ℕ, ◌+◌, ◌<◌, List, [], ◌∷◌, length, get_or, drop, Result, Ok, Err, refl, sym, ap, ◌∙◌, arith}
use native.Mathlib.Numerals.{add-one}
use borrow.Author.Tests.{ne_eqb}
use lib.Seq.{drop-cons, drop-length}
use lib.Ieee.{Float, lt, ne}
use Rattle.objects.specs.declared.answers.Refusal.{Refusal}
use Rattle.objects.specs.declared.answers.Refusal.TheVariants as refusal
use Rattle.objects.specs.declared.sectors.ShadingSegment.{ShadingSegment}
use Rattle.segments.specs.Segments.{holds_azimuth, visit, place_from, place_of}

-- the walk from the i-th sector on, which may be the first
unfoldable pub walk_from : Float → ℕ → Float → List ShadingSegment → Result ℕ Refusal
unfolding visit place_from
walk_from azimuth i last [] = Err refusal.NoSector
walk_from azimuth i last (s ∷ rest) =
    cond (not (eqb i 0) && ne last s.start360) (Err refusal.Gap) (visit azimuth i s (place_from azimuth s.end360 (i + 1) rest))

later : (azimuth last : Float) (i : ℕ) (l : List ShadingSegment) → walk_from azimuth (i + 1) last l ≡ place_from azimuth last (i + 1) l
unfolding walk_from place_from
later azimuth last i [] = refl
later azimuth last i (s ∷ rest) = rw (ne_eqb (i + 1) 0 (omega arith)) refl

-- what is left of the list from the i-th sector on comes to the place of the whole
abbrev pub Comes : Float → List ShadingSegment → ℕ → Float → Type 0
Comes azimuth l i last = walk_from azimuth i last (drop i l) ≡ place_of azimuth l

pub comes_first : (azimuth : Float) (l : List ShadingSegment) (last : Float) → Comes azimuth l 0 last
unfolding place_of walk_from
comes_first azimuth [] last = refl
comes_first azimuth (s ∷ rest) last = refl

module _ (azimuth : Float) (l : List ShadingSegment) (i : ℕ) (last : Float) (d : ShadingSegment) (there : i < length l) (comes : Comes azimuth l i last) where
  abbrev pub s : ShadingSegment
  s = get_or l i d

  pub comes_next : cond (not (eqb i 0) && ne last s.start360) (Err refusal.Gap)
      (cond (lt s.end360 s.start360) (Err refusal.Turned)
      (cond (holds_azimuth azimuth s) (Ok i) (walk_from azimuth (i + 1) s.end360 (drop (i + 1) l))))
      ≡ place_of azimuth l
  unfolding walk_from visit
  comes_next = rw (later azimuth s.end360 i (drop (i + 1) l)) (sym (ap (walk_from azimuth i last) from_here_lem) ∙ comes)
    where
      from_here_lem : drop i l ≡ s ∷ drop (i + 1) l
      from_here_lem = drop-cons l i d there ∙ ap (λ (k : ℕ). s ∷ drop k l) (sym (add-one i))

pub comes_last : (azimuth : Float) (l : List ShadingSegment) (i : ℕ) (last : Float) → i ≡ length l → Comes azimuth l i last → Err refusal.NoSector ≡ place_of azimuth l
unfolding walk_from
comes_last azimuth l i last e c = rw (e, drop-length l) at c
