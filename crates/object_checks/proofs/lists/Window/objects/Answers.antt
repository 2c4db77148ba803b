use mathlib.Core.Path.{sym, subst}
use lib.Dec.{T}
use Rattle.object_checks.proofs.AcceptedWindow.{window_count_lem}
use Rattle.object_checks.proofs.lists.Window.objects.Goals as goal

pub window_of-requires : goal.window_of-requires
window_of-requires c = window_count_lem _ (subst T (sym c.args.self.fine) tt)
