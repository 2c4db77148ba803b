use lib.Ieee.{of_bits}
use Rattle.arcsines.specs.Arcsine.{half_pi, upward_by}
use Rattle.arcsines.proofs.arcsine_upward.Goals as goal

pub returns-then-m : goal.returns-then-m
unfolding upward_by of_bits
returns-then-m c = simp c.if-m.true

pub returns-else-m : goal.returns-else-m
unfolding upward_by half_pi of_bits
returns-else-m c = simp c.if-m.false
