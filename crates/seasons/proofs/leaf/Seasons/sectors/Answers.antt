-- `sectors` meets its contract: of two accepted lists the part for a day is one.
use Rattle.std.proofs.Common.{◌≡◌, List, ℕ, sym, ◌∙◌, ap, subst, true}
use lib.Dec.{T}
use Rattle.object_checks.specs.Checks.{sectors_fine}
use Rattle.seasons.proofs.Parts.{of_day_lem}
use Rattle.seasons.proofs.leaf.Seasons.sectors.Goals as goal

pub invariant_of-result : goal.invariant_of-result
invariant_of-result c =
    let summer = c.args.self.summer.fine in
    let winter = c.args.self.winter.fine in
    record {
      fine = ap sectors_fine c.sectors_for-bytes.ensures
          ∙ of_day_lem _ _ (subst T (sym summer) tt) (subst T (sym winter) tt) (λ (l : List ℕ). sectors_fine l ≡ true) summer winter
          c.args.self.first c.args.self.last c.args.day;
    }
