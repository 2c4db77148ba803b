-- `empty_totals` meets its contract. The loop's invariant: what is left of the records, stored from here on, comes to all of them.
use Rattle.std.proofs.Common.{◌≡◌, ℕ, ◌+◌, ◌-◌, ◌*◌, ◌≤◌, Bool, List, sym, ap, ◌∙◌, subst, arith}
use lib.Seq.{sets}
use lib.Ieee.{of_bits, div}
use Rattle.doubles.specs.Arithmetic.{whole}
use Rattle.calendar.specs.Calendar.{days_in_year}
use Rattle.calendar.proofs.Rule.{year_few}
use Rattle.jobs.specs.Totals.{no_totals, totals_count, totals_records}
use Rattle.totals.specs.Kept.{emptied}
use Rattle.jobs.proofs.TotalsRecords.{record_next, records_done, records_whole}
use Rattle.totals.proofs.empty_totals.Goals as goal

counted : (leap : Bool) (n : ℕ) → n ≡ days_in_year leap → n + 12 ≡ totals_count leap
unfolding totals_count
counted leap n e = ap (λ (n : ℕ). n + 12) e

pub overflow_add-count : goal.overflow_add-count
overflow_add-count c = omega (arith, c.days_in_year-count.ensures, year_few c.args.leap)

pub loop-k-init : goal.loop-k-init
unfolding emptied
loop-k-init c = records_whole (λ (j : ℕ). no_totals) (totals_count c.args.leap) c.args.totals.now c.requires

pub store_totals-requires : goal.store_totals-requires
store_totals-requires c =
    let count = counted c.args.leap _ c.days_in_year-count.ensures in
    record {
      k_bound = omega (arith, c.days_in_year-count.ensures, year_few c.args.leap);
      k_in_bounds = omega (arith, count, c.requires);
    }

pub loop-k-preserved : goal.loop-k-preserved
unfolding no_totals whole of_bits div
loop-k-preserved c =
    let d = c.loop-k.totals in
    let k = c.loop-k.k in
    let count = counted c.args.leap _ c.days_in_year-count.ensures in
    ap (λ (m : List ℕ). sets m (24 * (k + 1)) (totals_records (λ (j : ℕ). no_totals) (totals_count c.args.leap - (k + 1)) (k + 1))) c.store_totals.ensures
    ∙ record_next (λ (j : ℕ). no_totals) (totals_count c.args.leap) d k (omega (arith, count)) (subst (λ (n : ℕ). 24 * totals_count c.args.leap ≤ n) (sym c.loop-k.auto.totals) c.requires)
    ∙ c.loop-k.invariant

pub returns : goal.returns
returns c =
    let l = c.loop-k in
    let count = counted c.args.leap _ c.days_in_year-count.ensures in
    sym (records_done (λ (j : ℕ). no_totals) (totals_count c.args.leap) l.totals l.k (omega (arith, count))) ∙ l.invariant
