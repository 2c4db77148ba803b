-- A listing read piece by piece prints what its definition says of the whole text.
use Rattle.std.specs.Prelude.{Err}
use mathlib.Core.Path.{◌≡◌, refl, sym, ◌∙◌, ap, ap₂}
use mathlib.Core.Logic.{◌≢◌}
use mathlib.Core.Bool.{Bool, true, false, cond, true≢false}
use mathlib.Core.List.{List, [], ◌∷◌, ◌++◌, append-nil, append_assoc}
use Prim.Native.Nat.{ℕ, ◌≤◌}
use native.Mathlib.Omega.{arith}
use borrow.Author.Tests.{ne_eqb}
use lib.Dec.{eqb}
use lib.Seq.{take_all}
use lib.ListN.{length, take, length-take}
use Rattle.listing.specs.declared.reader.Stage.{Stage}
use Rattle.listing.specs.declared.reader.Stage.TheVariants.{Names, Values, Over}
use Rattle.objects.specs.declared.answers.Refusal.TheVariants as refusal
use Rattle.text.specs.Text.{ascii, same_text, last_line, lines_from, lines_of}
use Rattle.lines.specs.Line.{output_line}
use Rattle.listing.specs.Listing.{names, header, answered, body, listing_of}
use Rattle.listing.proofs.Cuts.{take_again, cut_answer, cut_names}
use Rattle.listing.specs.Reading.{Reading, line_start, with_part, printed, after, wants_more, line_over, last_printed, from_here, read_on, printed_on}

-- ---- a last line that lacks its line feed

-- but for an empty one among lines with values it prints what any line does
pub last_is_printed : (s : Stage) (l : List ℕ) → (s ≡ Values → length l ≡ 0 → ⊥) → printed s l ≡ last_printed s l
unfolding last_printed printed
last_is_printed Names l h = refl
last_is_printed Values [] h = absurd (h refl refl)
last_is_printed Values (a ∷ l) h = refl
last_is_printed Over l h = refl

pub none_printed : (s : Stage) (l : List ℕ) → s ≡ Values → length l ≡ 0 → [] ≡ last_printed s l
unfolding last_printed
none_printed s [] e h = rw e refl
none_printed s (a ∷ l) e h = absurd (omega (arith, h))

-- ---- by the byte that comes

either : (b : Bool) {x y z : List ℕ} → x ≡ z → y ≡ z → cond b x y ≡ z
either true p q = p
either false p q = q

each : (f : List (List ℕ) → List ℕ) (b : Bool) {x y : List ℕ} {u v : List (List ℕ)} → x ≡ f u → y ≡ f v → cond b x y ≡ f (cond b u v)
each f true p q = p
each f false p q = q

abbrev at : Stage → List ℕ → Reading
at s l = record { stage = s; held = l }

more : (s : Stage) (l p : List ℕ) → with_part (at s (take 170 l)) p ≡ at s (take 170 (l ++ p))
unfolding with_part
more s l p = ap (at s) (take_again 170 l p)

-- after a wrong names line nothing is printed
over : (held text : List ℕ) → from_here (at Over held) text ≡ []
unfolding from_here last_printed printed line_over line_start after with_part
over held [] = refl
over held (b ∷ rest) = either (eqb b 10) (over [] rest) (over (take 170 (held ++ b ∷ [])) rest)

-- a reader that wants no more prints nothing, whatever follows
pub ended_for_good : (r : Reading) (text : List ℕ) → wants_more r.stage ≡ false → from_here r text ≡ []
unfolding wants_more
ended_for_good r text = go r.stage
  where
    go : (s : Stage) → wants_more s ≡ false → from_here (at s r.held) text ≡ []
    go Names h = absurd (true≢false h)
    go Values h = absurd (true≢false h)
    go Over h = over r.held text

last_answered : (l : List ℕ) → last_printed Values (take 170 l) ≡ answered (last_line l)
unfolding last_printed printed answered last_line
last_answered [] = refl
last_answered (a ∷ l) = ap output_line (cut_answer (a ∷ l)) ∙ sym (append-nil _)

-- lines with values
values : (l text : List ℕ) → from_here (at Values (take 170 l)) text ≡ answered (lines_from l text)
unfolding from_here printed line_over line_start after answered lines_from
values l [] = last_answered l
values l (b ∷ rest) =
    each answered (eqb b 10)
    (ap₂ ◌++◌ (ap output_line (cut_answer l)) (values [] rest))
    (ap (λ (r : Reading). from_here r rest) (more Values l (b ∷ [])) ∙ values (l ++ b ∷ []) rest)

-- the names line
last_names : (l : List ℕ) → last_printed Names (take 170 l) ≡ body (last_line l)
unfolding last_printed printed body last_line answered names ascii
last_names [] = refl
last_names (a ∷ l) = ap (λ (b : Bool). cond b [] (output_line (Err refusal.Line))) (cut_names (a ∷ l))

names_over : (l rest : List ℕ) → printed Names (take 170 l) ++ from_here (line_over (at Names (take 170 l))) rest ≡ body (l ∷ lines_from [] rest)
unfolding printed line_over line_start after body
names_over l rest = rw (cut_names l) (go (same_text l names))
  where
    go : (b : Bool) → cond b [] (output_line (Err refusal.Line)) ++ from_here (at (cond b Values Over) []) rest
        ≡ cond b (answered (lines_from [] rest)) (output_line (Err refusal.Line))
    go true = values [] rest
    go false = ap (λ (l : List ℕ). output_line (Err refusal.Line) ++ l) (over [] rest) ∙ append-nil _

named : (l text : List ℕ) → from_here (at Names (take 170 l)) text ≡ body (lines_from l text)
unfolding from_here lines_from
named l [] = last_names l
named l (b ∷ rest) =
    each body (eqb b 10) (names_over l rest) (ap (λ (r : Reading). from_here r rest) (more Names l (b ∷ [])) ∙ named (l ++ b ∷ []) rest)

-- ---- the laws

-- read byte by byte, a text prints its listing
body_read : (text : List ℕ) → from_here (line_start Names) text ≡ body (lines_of text)
unfolding lines_of line_start
body_read text = named [] text

pub listing_read : (text : List ℕ) → header ++ from_here (line_start Names) text ≡ listing_of text
unfolding listing_of
listing_read text = ap (λ (l : List ℕ). header ++ l) (body_read text)

-- a part without a line feed may be taken in one go or in any pieces
pub data Unbroken : List ℕ → Type 0 where
  none : Unbroken []
  and_then : {b : ℕ} {l : List ℕ} → b ≢ 10 → Unbroken l → Unbroken (b ∷ l)

again : (r : Reading) (p q : List ℕ) → with_part (with_part r p) q ≡ with_part r (p ++ q)
unfolding with_part
again r p q = ap (at r.stage) (take_again 170 (r.held ++ p) q ∙ ap (take 170) (append_assoc r.held p q))

pub at_most : (r : Reading) (p : List ℕ) → length (with_part r p).held ≤ 170
unfolding with_part
at_most r p = let z = length-take 170 (r.held ++ p) in omega (arith, z)

nothing_more : (r : Reading) → length r.held ≤ 170 → with_part r [] ≡ r
unfolding with_part
nothing_more r h = ap (at r.stage) (ap (take 170) (append-nil r.held) ∙ take_all 170 r.held h)

-- a function of the reading and the rest of the text that takes a byte other than a line feed into the reading
pub record Passes {A : Type 0} (f : Reading → List ℕ → A) : Type 0 where
  pub past : (r : Reading) (b : ℕ) (rest : List ℕ) → b ≢ 10 → f r (b ∷ rest) ≡ f (with_part r (b ∷ [])) rest

pub part_read : {A : Type 0} {f : Reading → List ℕ → A} → Passes f → (r : Reading) {part : List ℕ} (rest : List ℕ) → length r.held ≤ 170 → Unbroken part
    → f r (part ++ rest) ≡ f (with_part r part) rest
part_read {A} {f} 𝓟 r rest h none = ap (λ (q : Reading). f q rest) (sym (nothing_more r h))
part_read {A} {f} 𝓟 r rest h (and_then {b} {l} k u) =
    𝓟.past r b (l ++ rest) k ∙ part_read 𝓟 (with_part r (b ∷ [])) rest (at_most r (b ∷ [])) u ∙ ap (λ (q : Reading). f q rest) (again r (b ∷ []) l)

pub read_on_passes : Passes read_on
unfolding read_on
read_on_passes = record { past = λ r b rest k. rw (ne_eqb b 10 k) }

pub printed_on_passes : Passes printed_on
unfolding printed_on
printed_on_passes = record { past = λ r b rest k. rw (ne_eqb b 10 k) }

-- a text may be read in pieces
pub piece_read : (r : Reading) (piece rest : List ℕ) → from_here r (piece ++ rest) ≡ printed_on r piece ++ from_here (read_on r piece) rest
unfolding from_here read_on printed_on
piece_read r [] rest = refl
piece_read r (b ∷ piece) rest = go (eqb b 10) (piece_read (line_over r) piece rest) (piece_read (with_part r (b ∷ [])) piece rest)
  where
    at_feed : List ℕ
    at_feed = printed r.stage r.held

    go : (c : Bool)
        → from_here (line_over r) (piece ++ rest) ≡ printed_on (line_over r) piece ++ from_here (read_on (line_over r) piece) rest
        → from_here (with_part r (b ∷ [])) (piece ++ rest) ≡ printed_on (with_part r (b ∷ [])) piece ++ from_here (read_on (with_part r (b ∷ [])) piece) rest
        → cond c (at_feed ++ from_here (line_over r) (piece ++ rest)) (from_here (with_part r (b ∷ [])) (piece ++ rest))
        ≡ cond c (at_feed ++ printed_on (line_over r) piece) (printed_on (with_part r (b ∷ [])) piece) ++ from_here (cond c (read_on (line_over r) piece) (read_on (with_part r (b ∷ [])) piece)) rest
    go true p q = ap (λ (l : List ℕ). at_feed ++ l) p ∙ sym (append_assoc at_feed (printed_on (line_over r) piece) (from_here (read_on (line_over r) piece) rest))
    go false p q = q

-- what a whole text prints: its lines as they end, and what is left when it ends
text_read : (text : List ℕ) → printed_on (line_start Names) text ++ last_printed (read_on (line_start Names) text).stage (read_on (line_start Names) text).held ≡ body (lines_of text)
unfolding from_here
text_read text = sym (piece_read (line_start Names) text []) ∙ ap (from_here (line_start Names)) (append-nil text) ∙ body_read text

pub text_answered : (text : List ℕ) (first last : Reading) (out : List ℕ) → first ≡ line_start Names → last ≡ read_on first text → out ≡ last_printed last.stage last.held
    → printed_on first text ++ out ≡ body (lines_of text)
text_answered text first last out f l o = rw (o, l, f) (text_read text)
