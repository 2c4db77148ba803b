use mathlib.Core.Path.{refl, ap, ◌∙◌}
use Rattle.listing.specs.Reading.{line_over, line_start, printed}
use Rattle.listing.proofs.reader.Reader.line_over.Goals as goal

pub returns : goal.returns
unfolding line_over line_start
returns c = (rw (c.after-self.ensures, c.held-2.ensures) refl, c.printed-output.ensures ∙ ap (printed c.args.self.now.stage) c.held.ensures)
