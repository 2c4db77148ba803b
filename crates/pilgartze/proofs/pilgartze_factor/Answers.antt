-- `pilgartze_factor` meets its contract.
use denote.Floats.{passes}
use Rattle.pilgartze.proofs.pilgartze_factor.Goals as goal

pub returns : goal.returns
returns c =
    let passed = c.well_formed.1.1.1.1.1 in record {
      value = rw (c.from.ensures, c.factor_call.ensures, c.surface_of-surface.ensures);
      doubles = record {
        height_fits = record { holds = passes _ passed.1.0.1 };
        width_fits = record { holds = passes _ passed.1.1.0.1 };
      };
    }
