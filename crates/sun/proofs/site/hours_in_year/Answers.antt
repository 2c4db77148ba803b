-- `hours_in_year` meets its contract.
use Rattle.std.proofs.Common.{refl, eq-eqb, ne_eqb}
use Rattle.sun.specs.Site.{hours_in_year}
use Rattle.sun.proofs.site.hours_in_year.Goals as goal

pub returns-then-site-eq1 : goal.returns-then-site-eq1
unfolding hours_in_year
returns-then-site-eq1 c = rw (eq-eqb _ _ c.if-site-eq1.true) refl

pub returns-else-site-eq1 : goal.returns-else-site-eq1
unfolding hours_in_year
returns-else-site-eq1 c = rw (ne_eqb _ _ c.if-site-eq1.false) refl
