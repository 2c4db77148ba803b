-- Texts as lists of bytes.
use Rattle.std.specs.Prelude.{Bool, cond, List, [], ◌∷◌, ◌++◌, ℕ, ◌+◌, ◌-◌, min, eqb, length, Option, position}
use Rattle.std.specs.Str.{bytes_eq}
use Prim.Native.Char.{code}
use Prim.Native.String as string
use Rattle.std.proofs.Math.Seq.{paste}

-- the bytes of an ASCII text
unfoldable pub ascii : string.String → List ℕ
ascii string.[] = []
ascii (string.◌∷◌ c rest) = code c ∷ ascii rest

-- two texts are the same: equally long, and the same byte at every place
abbrev pub same_text : List ℕ → List ℕ → Bool
same_text = bytes_eq

-- the lines of a text of which `line` was read so far: each ends in a line feed, which the last may lack
unfoldable pub last_line : List ℕ → List (List ℕ)
last_line [] = []
last_line (a ∷ l) = (a ∷ l) ∷ []

unfoldable pub lines_from : List ℕ → List ℕ → List (List ℕ)
lines_from line [] = last_line line
lines_from line (b ∷ rest) = cond (eqb b 10) (line ∷ lines_from [] rest) (lines_from (line ++ b ∷ []) rest)

unfoldable pub lines_of : List ℕ → List (List ℕ)
lines_of text = lines_from [] text

-- the place of the first line feed
abbrev pub line_end : List ℕ → Option ℕ
line_end = position (λ (b : ℕ). eqb b 10)

-- a part put behind the first `used` bytes of a list, as far as there is room: how many bytes of it, the list afterwards, and how many
-- of the list's bytes are used then
abbrev pub moved : List ℕ → ℕ → List ℕ → ℕ
moved list used part = min (length part) (length list - used)

abbrev pub filled : List ℕ → ℕ → List ℕ → List ℕ
filled list used part = paste list used part (moved list used part)

abbrev pub used_after : List ℕ → ℕ → List ℕ → ℕ
used_after list used part = used + moved list used part
