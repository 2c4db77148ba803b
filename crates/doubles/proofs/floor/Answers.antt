-- `floor` meets its contract: the library's floor is the definition's.
use Rattle.std.proofs.Common.{◌∙◌}
use denote.Floats.{passes}
use Rattle.doubles.proofs.WholePart.{floor_is}
use Rattle.doubles.proofs.floor.Goals as goal

pub returns : goal.returns
returns c = c.floor.ensures ∙ floor_is c.args.x (passes _ c.well_formed.0.1)
