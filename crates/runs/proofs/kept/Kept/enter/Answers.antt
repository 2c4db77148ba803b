-- `Kept::enter` meets its contract.
use Rattle.std.proofs.Common.{◌≡◌, ℕ, ◌/◌, Bool, List, eqb, sym, ap, ◌∙◌, subst, arith}
use lib.Dec.{T}
use Rattle.calendar.proofs.Rule.{year_few}
use Rattle.seasons.specs.Table.{season_table}
use Rattle.seasons.proofs.Parts.{still_right}
use Rattle.sun.specs.Site.{leap_year_of}
use Rattle.steps.proofs.StepKept.{of_its_day}
use Rattle.totals.specs.declared.KeptTotals.{KeptTotals}
use Rattle.totals.specs.Kept.{kept_totals}
use Rattle.runs.specs.Asked.{job_lent}
use Rattle.runs.specs.declared.kept.Kept.{Kept}
use Rattle.runs.specs.Kept.{day_table, come_to}
use Rattle.runs.proofs.KeptLaws.{summer_fine, winter_fine, leaf_now, table_now, put_together, day_kept, day_number, season_kept, another_day, same_day}
use Rattle.runs.proofs.kept.Kept.enter.Goals as goal
use Rattle.runs.proofs.kept.Kept.enter.Goals.{Joined-day-self, then-day-self+then-in_leaf-self, then-day-self+else-in_leaf-self, else-day-self}

-- the day is still the old one's; the sectors and the totals are those of the new day
came : (c : Joined-day-self)
    → let a = c.args in
    let s = c.if-day-self.self in
    let day = a.hour / 24 in
    (s.day ≡ a.self.now.day)
    × (s.season ≡ day_table (job_lent a.setting.now.job) day)
    × (◌≡◌ {A = List ℕ × KeptTotals} (c.if-day-self.totals, s.totals) (come_to (leap_year_of a.setting.now.job.site) (eqb day (a.self.now.hour.hour / 24)) day a.totals.now a.self.now.totals))
came c =
    let a = c.args in
    let job = job_lent a.setting.now.job in
    let old = a.self.now in
    let q = c.requires in
    let day = a.hour / 24 in
    let index : old.day.index ≡ old.hour.hour / 24 = day_number job old.hour.hour old.totals old q.kept_value in
    let season : old.season ≡ day_table job (old.hour.hour / 24) = season_kept job old.hour.hour old.totals old q.kept_value in
    elim c.if-day-self.branch [
      | then-day-self+then-in_leaf-self w ↦ let is = w.self-is ∙ w.read_season.ensures in (
        ap (λ (k : Kept). k.day) is,
        table_now a.setting.now q.ready day _ (ap (λ (k : Kept). k.season) is),
        another_day (leap_year_of a.setting.now.job.site) day (old.hour.hour / 24) a.totals.now _ old.totals _ (λ (e : day ≡ old.hour.hour / 24). w.if-day-self.true (e ∙ sym index))
            (w.totals-is ∙ w.store.ensures) (ap (λ (k : Kept). k.totals) is ∙ w.read-self.ensures ∙ ap (kept_totals (leap_year_of a.setting.now.job.site) day) (sym w.totals-is)),
      )
      | then-day-self+else-in_leaf-self w ↦ (
        ap (λ (k : Kept). k.day) w.self-is,
        ap (λ (k : Kept). k.season) w.self-is
            ∙ still_right job.summer job.winter (subst T (sym (summer_fine a.setting.now q.ready)) tt) (subst T (sym (winter_fine a.setting.now q.ready)) tt) _ _ season _ w.if-in_leaf-self.false
            ∙ ap (λ (b : Bool). season_table b job.summer job.winter) (w.in_leaf.ensures ∙ leaf_now a.setting.now q.ready day),
        another_day (leap_year_of a.setting.now.job.site) day (old.hour.hour / 24) a.totals.now _ old.totals _ (λ (e : day ≡ old.hour.hour / 24). w.if-day-self.true (e ∙ sym index))
            (w.totals-is ∙ w.store.ensures) (ap (λ (k : Kept). k.totals) w.self-is ∙ w.read-self.ensures ∙ ap (kept_totals (leap_year_of a.setting.now.job.site) day) (sym w.totals-is)),
      )
      | else-day-self w ↦ (
        ap (λ (k : Kept). k.day) w.self-is,
        ap (λ (k : Kept). k.season) w.self-is ∙ season ∙ ap (day_table job) (sym (w.if-day-self.false ∙ index)),
        same_day (leap_year_of a.setting.now.job.site) day (old.hour.hour / 24) a.totals.now _ old.totals _ (w.if-day-self.false ∙ index)
            w.totals-is (ap (λ (k : Kept). k.totals) w.self-is),
      )
    ]

pub day_for-self-requires : goal.day_for-self-requires
day_for-self-requires c =
    let q = c.requires in
    let job = job_lent c.args.setting.now.job in
    let old = c.args.self.now in
    let day = (came (goal.at.day_for-self-requires c).Joined-day-self).0 in
    record {
      index_bound = omega (arith, q.day_bound, year_few (leap_year_of c.args.setting.now.job.site));
      kept_value = of_its_day _ _ (day ∙ day_kept job old.hour.hour old.totals old q.kept_value);
    }

pub returns : goal.returns
returns c =
    let q = c.requires in
    let now = came (goal.at.returns c).Joined-day-self in
    record {
      kept_after = put_together (job_lent c.args.setting.now.job) c.args.hour (summer_fine c.args.setting.now q.ready) (winter_fine c.args.setting.now q.ready) _ _ _ _ _ _
          c.kept_hour-self.ensures c.day_for-self.ensures now.1 q.ready.objects c.factor_for-self.ensures;
      totals_after = now.2;
    }
