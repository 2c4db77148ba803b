-- `pilgartze_strips` meets its contract.
use denote.Floats.{passes}
use Rattle.pilgartze.proofs.pilgartze_strips.Goals as goal

pub returns : goal.returns
returns c =
    let passed = c.well_formed.1.1.1.1.1 in
    record { value = rw (c.from.ensures, c.strips_call.ensures); fits = record { holds = passes _ passed.1.0.1 } }
