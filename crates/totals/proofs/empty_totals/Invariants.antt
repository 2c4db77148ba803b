-- `empty_totals` meets its contract. The loop's invariant: what is left of the records, stored from here on, comes to all of them.
use Rattle.std.proofs.Common.{◌≡◌, ℕ, ◌-◌, ◌*◌}
use lib.Seq.{sets}
use Rattle.jobs.specs.Totals.{no_totals, totals_count, totals_records}
use Rattle.totals.specs.Kept.{emptied}
use Rattle.totals.proofs.empty_totals.Given as goal

abbrev pub invariant-loop-k : goal.invariant-loop-k
invariant-loop-k l = sets l.totals (24 * l.k) (totals_records (λ (j : ℕ). no_totals) (totals_count l.leap - l.k) l.k) ≡ emptied l.leap l.initial.totals
