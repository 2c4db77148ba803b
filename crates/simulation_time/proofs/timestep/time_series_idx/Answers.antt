-- `time_series_idx` meets its contract: a double and its floor have the same whole part.
use Rattle.std.proofs.Common.{◌*◌, ◌^◌, sym, ◌∙◌, arith, le→leb}
use lib.Ieee.{in_float}
use Rattle.doubles.specs.Arithmetic.{whole}
use Rattle.simulation_time.proofs.SeriesIndices.{index_is}
use Rattle.simulation_time.proofs.timestep.time_series_idx.Goals as goal

pub int_to_float-start_day : goal.int_to_float-start_day
unfolding in_float
int_to_float-start_day c = let day = c.args.start_day in le→leb (day * 24) (2 ^ 53) (omega arith)

pub returns : goal.returns
unfolding whole
returns c = c.saturating_f64_to_usize.ensures ∙ sym (index_is c.args.time c.args.start_day c.args.time_series_step)
