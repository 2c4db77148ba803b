-- What the shade listing prints for a whole text.
use Rattle.std.specs.Prelude.{cond, List, [], ◌∷◌, ◌++◌, ℕ, Err}
use Rattle.objects.specs.declared.answers.Refusal.TheVariants as refusal
use Rattle.text.specs.Text.{ascii, same_text, lines_of}
use Rattle.lines.specs.Line.{line_answer, output_line}

unfoldable pub names : List ℕ
names = ascii "altitude azimuth base height width tilt orientation shade distance transparency"

unfoldable pub header : List ℕ
header = ascii "number factor\n"

unfoldable pub answered : List (List ℕ) → List ℕ
answered [] = []
answered (l ∷ rest) = output_line (line_answer l) ++ answered rest

-- the names line, then the lines with values; without the names line 12 and no more
unfoldable pub body : List (List ℕ) → List ℕ
body [] = output_line (Err refusal.Line)
body (l ∷ rest) = cond (same_text l names) (answered rest) (output_line (Err refusal.Line))

unfoldable pub listing_of : List ℕ → List ℕ
listing_of text = header ++ body (lines_of text)
