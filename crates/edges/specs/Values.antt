-- What an example comes to, as the program compares it: the bits of a double or a count, or the number of its refusal.
use Rattle.std.specs.Prelude.{ℕ, Err, Float, Ok, Result}
use Rattle.std.specs.Float.{binary64}
use Rattle.std.specs.Float.Ieee.{to_bits}
use Rattle.objects.specs.declared.answers.Refusal.{Refusal}
use Rattle.objects.specs.Refusals.{number_of}
use Rattle.jobs.specs.declared.answers.Accepted.{Accepted}
use Rattle.jobs.specs.declared.answers.RefusedAt.{RefusedAt}

unfoldable pub factor_value : Result Float Refusal → Result ℕ ℕ
factor_value (Ok x) = Ok (to_bits binary64 x)
factor_value (Err r) = Err (number_of r)

-- the count of steps
unfoldable pub run_value : Result Accepted RefusedAt → Result ℕ ℕ
run_value (Ok run) = Ok run.count
run_value (Err fault) = Err (number_of fault.refusal)
