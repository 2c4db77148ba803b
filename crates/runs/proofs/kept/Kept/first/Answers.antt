-- `Kept::first` meets its contract.
use Rattle.std.proofs.Common.{ap, ◌∙◌}
use Rattle.sun.specs.Site.{leap_year_of}
use Rattle.totals.specs.declared.KeptTotals.{KeptTotals}
use Rattle.totals.proofs.Kept.{year_starts}
use Rattle.runs.specs.Asked.{job_lent}
use Rattle.runs.specs.Kept.{kept_at}
use Rattle.runs.proofs.KeptLaws.{summer_fine, winter_fine, table_now, put_together}
use Rattle.runs.proofs.kept.Kept.first.Goals as goal

pub read-requires : goal.read-requires
read-requires c = year_starts (leap_year_of c.args.setting.now.job.site)

pub returns : goal.returns
returns c =
    let s = c.args.setting.now in
    let q = c.requires in
    let job = job_lent s.job in
    put_together job 0 (summer_fine s q) (winter_fine s q) _ _ _ _ _ _ c.kept_hour-hour.ensures c.read_day-day.ensures (table_now s q 0 _ c.table-season.ensures) q.objects c.factor_for.ensures
    ∙ ap (λ (totals : KeptTotals). kept_at job totals 0) c.read.ensures
