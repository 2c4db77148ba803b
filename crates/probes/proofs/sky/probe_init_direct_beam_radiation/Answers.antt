use Rattle.probes.proofs.sky.probe_init_direct_beam_radiation.Goals as goal

pub returns : goal.returns
returns c = rw (c.init_direct_beam_radiation.ensures, c.sin-sin_altitude.ensures, c.to_radians.ensures)
