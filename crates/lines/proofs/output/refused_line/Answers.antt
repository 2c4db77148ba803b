use mathlib.Core.Path.{◌≡◌, ◌∙◌, ap, ap₂}
use mathlib.Core.List.{[], ◌∷◌, ◌++◌}
use Prim.Native.Nat.{ℕ}
use lib.ListN.{length, take}
use Rattle.lines.specs.Line.{numeral, output_line, bytes_of}
use Rattle.words.proofs.Lists.{unmapped}
use Rattle.text.proofs.Pieces.{kept}
use Rattle.lines.proofs.Numerals.{below_hundred, refused}
use Rattle.lines.proofs.output.refused_line.Goals as goal

pub numeral-count-requires : goal.numeral-count-requires
numeral-count-requires c = rw c.from.ensures (below_hundred c.args.refusal)

pub returns : goal.returns
unfolding output_line
returns c =
    let line = c.numeral-count.result in
    -- the line's 19 places
    let places : length line.bytes ≡ 19 = let g = c.numeral-count.type_inv in search unmapped in
    let e = c.append-count.ensures in
    ap₂ take e.0 e.1
    ∙ kept line.bytes line.count (32 ∷ 45 ∷ 10 ∷ [])
    ∙ ap (λ (n : ℕ). take n (bytes_of line ++ 32 ∷ 45 ∷ 10 ∷ [])) places
    ∙ refused _ _ (below_hundred c.args.refusal) (c.numeral-count.ensures ∙ ap numeral c.from.ensures)
