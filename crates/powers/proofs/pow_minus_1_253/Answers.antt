use lib.Ieee.{of_bits}
use Rattle.powers.specs.Power.{pow_minus1253, power_by}
use Rattle.powers.proofs.pow_minus_1_253.Goals as goal

pub returns-then-u-2 : goal.returns-then-u-2
unfolding pow_minus1253 power_by of_bits
returns-then-u-2 c = simp (c.if-u.true, c.if-u-2.true, c.logarithm.ensures, c.power.ensures)

pub returns-then-u-3 : goal.returns-then-u-3
unfolding pow_minus1253 power_by of_bits
returns-then-u-3 c = simp (c.if-u.true, c.if-u-2.false, c.if-u-3.true, c.logarithm-then-u-3.ensures, c.power-then-u-3.ensures)

pub returns-else-u-3 : goal.returns-else-u-3
unfolding pow_minus1253 power_by of_bits
returns-else-u-3 c = simp (c.if-u.true, c.if-u-2.false, c.if-u-3.false, c.logarithm-else-u-3.ensures, c.power-else-u-3.ensures)

pub returns-else-u : goal.returns-else-u
unfolding pow_minus1253 power_by of_bits
returns-else-u c = simp c.if-u.false
