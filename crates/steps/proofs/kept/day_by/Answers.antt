-- `day_by` meets its contract.
use Rattle.steps.specs.Kept.{kept_day}
use Rattle.steps.proofs.kept.day_by.Goals as goal

pub returns : goal.returns
unfolding kept_day
returns c = rw (c.sin_cos_of_degrees-declination.ensures, c.requires)
