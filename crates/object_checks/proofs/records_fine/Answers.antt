-- `records_fine` meets its contract.
use Rattle.std.proofs.Common.{◌∙◌, refl}
use Rattle.object_checks.proofs.RecordLists.{part_record, too_long, all_records}
use Rattle.object_checks.proofs.records_fine.Goals as goal

pub returns-then-bytes-size-ne0 : goal.returns-then-bytes-size-ne0
returns-then-bytes-size-ne0 g c fine told = part_record _ _ fine c.args.bytes.now c.if-bytes-size-ne0.true

pub returns-then-most-size : goal.returns-then-most-size
returns-then-most-size g c fine told = too_long _ _ fine c.args.bytes.now c.if-bytes-size-ne0.false c.if-most-size.true

pub returns : goal.returns
returns g c fine told =
    let l = c.args.bytes.now in
    c.all_first.ensures (fine l) told ∙ all_records _ _ fine l _ c.if-bytes-size-ne0.false c.if-most-size.false refl
