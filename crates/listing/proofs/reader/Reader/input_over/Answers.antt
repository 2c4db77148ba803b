use mathlib.Core.Path.{◌≡◌, sym, ◌∙◌}
use mathlib.Core.Logic.{◌≢◌}
use native.Mathlib.Omega.{arith}
use lib.ListN.{length}
use Rattle.listing.specs.declared.reader.Stage.TheVariants.{Names, Values, Over}
use Rattle.std.proofs.Common.{inl, inr}
use Rattle.std.proofs.lemmas.Bool.Decides.{nat_tests}
use Rattle.listing.specs.Reading.{reading_of}
use Rattle.listing.proofs.Readings.{last_is_printed, none_printed}
use Rattle.listing.proofs.reader.Reader.input_over.Goals as goal

apart : Names ≡ Values → ⊥
apart e = cc

apart' : Over ≡ Values → ⊥
apart' e = cc

pub returns-then-is_empty : goal.returns-then-is_empty
returns-then-is_empty c =
    let none : length (reading_of c.args.self).held ≡ 0 = grind (arith, nat_tests) in
    c.nothing.ensures ∙ none_printed c.args.self.stage _ c.in-Values.is none

pub returns-else-is_empty : goal.returns-else-is_empty
returns-else-is_empty c =
    let some : length (reading_of c.args.self).held ≢ 0 = grind (arith, nat_tests) in
    c.line_over.ensures.1 ∙ last_is_printed c.args.self.stage _ (λ _ h. some h)

pub returns-in-Names : goal.returns-in-Names
returns-in-Names c =
    c.line_over-in-Names.ensures.1 ∙ last_is_printed c.args.self.stage _ (λ v _. elim c.in-Names.is [ inl e ↦ apart (sym e ∙ v) | inr e ↦ apart' (sym e ∙ v) ])
