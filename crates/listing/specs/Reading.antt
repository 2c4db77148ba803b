-- A listing read piece by piece. Of a line that is not yet whole the first 170 bytes are kept: one more than a line with values has, so
-- that a line that is too long shows.
use Rattle.std.specs.Prelude.{Bool, true, false, cond, List, [], ◌∷◌, ◌++◌, ℕ, eqb, take, Err}
use Rattle.objects.specs.declared.answers.Refusal.TheVariants as refusal
use Rattle.listing.specs.declared.reader.Stage.{Stage}
use Rattle.listing.specs.declared.reader.Stage.TheVariants.{Names, Values, Over}
use Rattle.listing.specs.declared.reader.Reader.{Reader}
use Rattle.text.specs.Text.{same_text}
use Rattle.lines.specs.Line.{line_answer, output_line}
use Rattle.listing.specs.Listing.{names}

-- how far the reading has come, and what is kept of the line
pub record Reading : Type 0 where
  pub stage : Stage
  pub held : List ℕ

-- at the start of a line
unfoldable pub line_start : Stage → Reading
line_start stage = record { stage = stage; held = [] }

-- more of the line
unfoldable pub with_part : Reading → List ℕ → Reading
with_part r part = record { stage = r.stage; held = take 170 (r.held ++ part) }

-- what a line prints, and what comes after it
unfoldable pub printed : Stage → List ℕ → List ℕ
printed Names l = cond (same_text l names) [] (output_line (Err refusal.Line))
printed Values l = output_line (line_answer l)
printed Over l = []

unfoldable pub after : Stage → List ℕ → Stage
after Names l = cond (same_text l names) Values Over
after Values l = Values
after Over l = Over

-- whether what follows can still print something; after a wrong names line nothing does (`ended_for_good` of proofs/Readings)
unfoldable pub wants_more : Stage → Bool
wants_more Names = true
wants_more Values = true
wants_more Over = false

-- the line has ended
unfoldable pub line_over : Reading → Reading
line_over r = line_start (after r.stage r.held)

-- the input has ended: what is kept was the last line, and among lines with values nothing kept is no line
unfoldable pub last_printed : Stage → List ℕ → List ℕ
last_printed Names l = printed Names l
last_printed Values [] = []
last_printed Values (b ∷ l) = printed Values (b ∷ l)
last_printed Over l = []

-- what is printed for the rest of a text, byte by byte
unfoldable pub from_here : Reading → List ℕ → List ℕ
from_here r [] = last_printed r.stage r.held
from_here r (b ∷ rest) = cond (eqb b 10) (printed r.stage r.held ++ from_here (line_over r) rest) (from_here (with_part r (b ∷ [])) rest)

-- a piece of the text, byte by byte: where the reading stands after it, and what the lines print that end in it
unfoldable pub read_on : Reading → List ℕ → Reading
read_on r [] = r
read_on r (b ∷ rest) = cond (eqb b 10) (read_on (line_over r) rest) (read_on (with_part r (b ∷ [])) rest)

unfoldable pub printed_on : Reading → List ℕ → List ℕ
printed_on r [] = []
printed_on r (b ∷ rest) = cond (eqb b 10) (printed r.stage r.held ++ printed_on (line_over r) rest) (printed_on (with_part r (b ∷ [])) rest)

-- a reader stands for a reading: the first `count` bytes of its line are kept
abbrev pub reading_of : Reader → Reading
reading_of r = record { stage = r.stage; held = take r.count r.line }
