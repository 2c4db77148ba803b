use Rattle.probes.proofs.sky.probe_day_of.Goals as goal

pub returns : goal.returns
returns c = rw c.day_of-day.ensures
