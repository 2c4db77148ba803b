-- `with_lists` meets its contract.
use Rattle.std.proofs.Common.{◌≡◌, ℕ, min, List, length, take, replicate, sym, ◌∙◌, ap, arith, length-take-le}
use Rattle.std.proofs.lemmas.List.{take_min}
use Rattle.kept_answers.specs.Differs.{lists_for}
use Rattle.kept_answers.proofs.whole_runs.with_lists.Goals as goal

-- a front that reaches past the end is the whole
front : (l : List ℕ) (n k : ℕ) → k ≡ min n (length l) → take k l ≡ take n l
front l n k e = ap (λ (m : ℕ). take m l) e ∙ take_min n l

pub slice_bounds-is_answered-end-2 : goal.slice_bounds-is_answered-end-2
slice_bounds-is_answered-end-2 c = sym (length-take-le c.min-m.result (replicate 9080 0xA5) (omega (arith, c.min-m.ensures)))

pub slice_bounds-is_answered-end-3 : goal.slice_bounds-is_answered-end-3
slice_bounds-is_answered-end-3 c = sym (length-take-le c.min-n.result (replicate 20000 0xA5) (omega (arith, c.min-n.ensures)))

pub returns : goal.returns
unfolding lists_for
returns c =
    let a = c.args in
    let totals = front (replicate 9080 0xA5) _ c.min-m.result c.min-m.ensures in
    let results = front (replicate 20000 0xA5) (length a.lists.results.now) c.min-n.result c.min-n.ensures in
    rw (totals, results, c.word_at.ensures) at c.is_answered.ensures
