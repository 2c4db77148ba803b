-- `store_breakdown` meets its contract.
use mathlib.Core.Path.{refl}
use Rattle.single_steps.specs.Single.{put_breakdown}
use Rattle.single_steps.proofs.store_breakdown.Goals as goal

pub returns : goal.returns
unfolding put_breakdown
returns c = rw (c.store_double-9.ensures, c.store_double-8.ensures, c.store_double-7.ensures, c.store_double-6.ensures, c.store_double-5.ensures, c.store_double-4.ensures, c.store_double-3.ensures, c.store_double-2.ensures, c.store_double.ensures) refl
