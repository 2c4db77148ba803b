-- `current_hour` meets its contract: a time and its floor have the same whole part.
use Rattle.std.proofs.Common.{sym, ◌∙◌}
use denote.Floats.{passes}
use Rattle.simulation_time.proofs.HoursOfSteps.{hour_is}
use Rattle.simulation_time.proofs.timestep.current_hour.Goals as goal

pub returns : goal.returns
returns c = c.saturating_f64_to_u32.ensures ∙ sym (hour_is (record { holds = passes _ c.well_formed.0.1 }))
