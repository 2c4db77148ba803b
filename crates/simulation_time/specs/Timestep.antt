-- A step's hour and place in a weather series (`Timestep`). `to_unsigned` is the Rust's `as`: what is negative becomes 0.
use Rattle.std.specs.Prelude.{ℕ, ◌*◌, Float}
use Rattle.std.specs.Float.Ieee.{to_unsigned}
use Rattle.doubles.specs.Arithmetic.{◌⊖◌, ◌⊘◌, whole}
use Rattle.doubles.specs.Functions.{floor_of}

-- the hour of the year, from 0
unfoldable pub current_hour : Float → ℕ
current_hour time = to_unsigned 32 (floor_of time)

-- the floor of (time − 24 · start day) / series step, negative becoming 0
unfoldable pub series_index : Float → ℕ → Float → ℕ
series_index time start_day step = to_unsigned 64 (floor_of ((time ⊖ whole (start_day * 24)) ⊘ step))
