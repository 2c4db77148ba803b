use mathlib.Core.List.{List, ◌++◌}
use mathlib.Core.Path.{◌≡◌, ap, ap₂, ◌∙◌}
use Prim.Native.Nat.{ℕ}
use lib.ListN.{length, take}
use Rattle.words.proofs.Lists.{unmapped}
use Rattle.listing.specs.Reading.{with_part}
use Rattle.text.proofs.Pieces.{kept}
use Rattle.listing.proofs.reader.Reader.take_part.Goals as goal

pub returns : goal.returns
unfolding with_part
returns c =
    let r = c.args.self.now in
    let p = c.args.part.now in
    -- the reader's 170 places
    let places : length r.line ≡ 170 = let g = c.well_formed.0 in search unmapped in
    let e = c.append-self.ensures in
    let held = ap₂ take e.0 e.1 ∙ kept r.line r.count p ∙ ap (λ (n : ℕ). take n (take r.count r.line ++ p)) places in
    ap (λ (l : List ℕ). record { stage = r.stage; held = l }) held
