-- The series index by one cast. Assumes nothing.
use Rattle.std.proofs.Common.{◌≡◌, ℕ, ◌*◌}
use lib.Ieee.{Float, binary64, to_unsigned}
use lib.Ieee.Fits.{div-fits}
use Rattle.doubles.specs.Arithmetic.{◌⊖◌, ◌⊘◌, whole}
use Rattle.doubles.proofs.Casts.{cast_floor}
use Rattle.simulation_time.specs.Timestep.{series_index}

-- the floor makes no difference, since what is negative becomes 0
pub index_is : (time : Float) (day : ℕ) (step : Float) → series_index time day step ≡ to_unsigned 64 ((time ⊖ whole (day * 24)) ⊘ step)
unfolding series_index
index_is time day step = cast_floor 64 (record { holds = div-fits binary64 (time ⊖ whole (day * 24)) step })
