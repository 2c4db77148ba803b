use mathlib.Core.Path.{refl, sym, ◌∙◌}
use Rattle.lines.specs.Line.{line_answer}
use Rattle.lines.proofs.Values.{found, not_found}
use Rattle.lines.proofs.line.line_answer.Goals as goal

pub returns-in_default : goal.returns-in_default
unfolding line_answer
returns-in_default c = rw (not_found c.args.line.now (sym c.in_default.ensures)) refl

pub returns : goal.returns
unfolding line_answer
returns c =
    let p = found c.args.line.now c.in-Some.values (sym c.in-Some.ensures) in
    c.listed_factor.ensures ∙ rw (p.0, ← p.1) refl
