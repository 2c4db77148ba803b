-- `three_hours` meets its contract.
use mathlib.Core.Path.{ap}
use lib.Ieee.{of_bits}
use Rattle.doubles.specs.Arithmetic.{whole}
use Rattle.edges.specs.Shades.{three_hours}
use Rattle.edges.proofs.shades.three_hours.Goals as goal

pub slice_bounds-job-end-4 : goal.slice_bounds-job-end-4
slice_bounds-job-end-4 c = c.whole_horizon-sectors.ensures.1

pub slice_bounds-job-end-5 : goal.slice_bounds-job-end-5
slice_bounds-job-end-5 c = c.whole_horizon-sectors.ensures.1

pub returns : goal.returns
unfolding three_hours of_bits whole
returns c = ap (λ x. x.ran.answer) (rw (c.south_wall.ensures, c.whole_horizon-sectors.ensures.0) at c.run_job.ensures)
