-- `is_answered_by` meets its contract.
use Rattle.std.proofs.Common.{◌≡◌, ℕ, take, ap, ◌∙◌, replicate, arith}
use Rattle.std.proofs.lemmas.List.{length-replicate}
use Rattle.text.specs.Text.{same_text, lines_of}
use Rattle.listing.specs.Listing.{body}
use Rattle.text.proofs.Pieces.{kept, used_length}
use Rattle.kept_answers.specs.Differs.{is_answered_by}
use Rattle.kept_answers.proofs.listings.is_answered_by.Goals as goal

pub slice_bounds-same_text-end : goal.slice_bounds-same_text-end
slice_bounds-same_text-end c =
    let p = c.answer_text-used in
    used_length (replicate 65536 0) 0 (body (lines_of c.args.text.now)) p.result p.new.list p.ensures.0 p.ensures.1 (omega arith)

pub returns : goal.returns
unfolding is_answered_by
returns c =
    let a = c.args in
    let p = c.answer_text-used in
    let lines = body (lines_of a.text.now) in
    let front : take p.result p.new.list ≡ take 65536 lines =
    rw (p.ensures.0, p.ensures.1) (kept (replicate 65536 0) 0 lines ∙ ap (λ n. take n lines) (length-replicate {A = ℕ} 65536 0)) in
    c.same_text.ensures ∙ ap (λ l. same_text l a.lines.now) front
