-- `append` meets its contract: the copied bytes are in their places.
use native.Mathlib.Omega.{arith}
use Rattle.text.proofs.Pieces.{none_moved, unchanged, copied}
use Rattle.text.proofs.append.Goals as goal

pub returns-then-list-count : goal.returns-then-list-count
returns-then-list-count c = let a = c.args in (let z = none_moved a.list.now a.count a.part.now (omega arith) in omega (arith, z), unchanged a.list.now a.count a.part.now (omega arith))

pub returns : goal.returns
returns c = let a = c.args in (omega arith, copied a.list.now a.count a.part.now _ _ _ (omega arith) (omega arith) c.copy_from_slice.ensures.after)
