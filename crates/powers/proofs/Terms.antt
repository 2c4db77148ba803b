-- The terms of the logarithm's series, counted from 1.
use Rattle.std.proofs.Common.{ℕ, ◌-◌}
use lib.Ieee.{Float}
use Rattle.powers.specs.Power.{logarithm_step}

abbrev pub term_step : Float → ℕ → Float → Float
term_step z n h = logarithm_step z (n - 1) h
