use Rattle.arcsines.specs.Arcsine.{arccosine}
use Rattle.arcsines.proofs.acos.Goals as goal

pub returns : goal.returns
unfolding arccosine
returns c = rw (c.acos_by.ensures, c.asin.ensures)
