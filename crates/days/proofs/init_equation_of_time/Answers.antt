use Prim.Native.Nat.{◌+◌}
use native.Mathlib.Omega.{arith}
use borrow.Author.Tests.{lt-ltb, le-ltb}
use lib.Ieee.{of_bits}
use Rattle.days.specs.Day.{equation_of_time_on}
use Rattle.days.proofs.init_equation_of_time.Goals as goal

pub returns-in-0-to-20 : goal.returns-in-0-to-20
unfolding equation_of_time_on of_bits
returns-in-0-to-20 c =
    let n = c.args.current_day + 1 in
    rw (lt-ltb n 21 (omega arith))

pub returns-in-21-to-135 : goal.returns-in-21-to-135
unfolding equation_of_time_on of_bits
returns-in-21-to-135 c =
    let n = c.args.current_day + 1 in
    rw (le-ltb n 21 (omega arith), lt-ltb n 136 (omega arith), c.cos.ensures, c.days_from.ensures)

pub returns-in-136-to-240 : goal.returns-in-136-to-240
unfolding equation_of_time_on of_bits
returns-in-136-to-240 c =
    let n = c.args.current_day + 1 in
    rw (le-ltb n 21 (omega arith), le-ltb n 136 (omega arith), lt-ltb n 241 (omega arith), c.cos-in-136-to-240.ensures, c.days_from-in-136-to-240.ensures)

pub returns-in-241-to-335 : goal.returns-in-241-to-335
unfolding equation_of_time_on of_bits
returns-in-241-to-335 c =
    let n = c.args.current_day + 1 in
    rw (le-ltb n 21 (omega arith), le-ltb n 136 (omega arith), le-ltb n 241 (omega arith), lt-ltb n 336 (omega arith), c.cos-in-241-to-335.ensures, c.days_from-in-241-to-335.ensures)

pub returns-in-336-to-366 : goal.returns-in-336-to-366
unfolding equation_of_time_on of_bits
returns-in-336-to-366 c =
    let n = c.args.current_day + 1 in
    rw (le-ltb n 21 (omega arith), le-ltb n 136 (omega arith), le-ltb n 241 (omega arith), le-ltb n 336 (omega arith), lt-ltb n 367 (omega arith), c.days_from-in-336-to-366.ensures)

pub returns-in_default : goal.returns-in_default
unfolding equation_of_time_on of_bits
returns-in_default c =
    let n = c.args.current_day + 1 in
    rw (le-ltb n 21 (omega arith), le-ltb n 136 (omega arith), le-ltb n 241 (omega arith), le-ltb n 336 (omega arith), le-ltb n 367 (omega arith))
