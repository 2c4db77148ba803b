-- What a function answers, as the numbers that cross to C.
use Rattle.std.specs.Prelude.{ℕ, Option, Some, None}
use Rattle.probes.specs.declared.ProbeDigits.{ProbeDigits}

-- found is 1 with the word, or 0 with 0
abbrev pub digits_answer : Option ℕ → ProbeDigits
digits_answer (Some w) = record { found = 1; word = w }
digits_answer None = record { found = 0; word = 0 }
