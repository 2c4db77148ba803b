use mathlib.Core.Path.{◌∙◌}
use Rattle.listing.specs.Reading.{reading_of, printed_on}
use Rattle.text.proofs.Pieces.{both_filled}
use Rattle.listing.proofs.Readings.{text_answered}
use Rattle.listing.proofs.reader.answer_text.Goals as goal

pub returns : goal.returns
returns c =
    let a = c.args in
    let first = c.line_start-reader in
    let whole = c.answer_piece-used in
    let done = c.append in
    let r = reading_of first.result in
    let out = c.as_slice.result.now in
    let all = text_answered a.text.now r (reading_of whole.new.self) out first.ensures whole.ensures.0 (c.as_slice.ensures ∙ c.input_over.ensures) in
    both_filled a.list.now 0 (printed_on r a.text.now) out _ whole.new.list done.new.list whole.result done.result whole.ensures.1 whole.ensures.2 done.ensures.0
    done.ensures.1 all
