-- `roots::lower_root` meets its contract: the guess by the tests, the whole root as the floor that it is. Assumes nothing.
use mathlib.Core.Path.{sym, subst}
use Rattle.roots.specs.Root.{whole_root}
use Rattle.roots.proofs.Whole.{whole_floor}
use Rattle.roots.proofs.Remainder.{Lower, floor_lower}
use Rattle.roots.proofs.lower_root.Goals as goal

pub returns-else-g-h : goal.returns-else-g-h
returns-else-g-h c =
    let h = c.args.h in
    subst (Lower h) (sym c.whole_root.ensures) (floor_lower h (whole_root 32 h) (whole_floor 32 h c.ranges.h.fits))
