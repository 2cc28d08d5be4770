-- `copy_component`: the record, and then 0 over its field D.
-- Assumes nothing.
use mathlib.Core.Path.{ap}
use native.Mathlib.Omega.{arith}
use lib.ListN.{length, length-set}
use lib.Seq.{length-sets}
use Rattle.component.specs.Record.{part_at}
use Rattle.component.proofs.LooseLaws.{part_length}
use Rattle.mend.proofs.CopyLaws.{copy_plain}
use Rattle.mend.proofs.copying.copy_component.Goals as goal

pub bounds-buffer-at-2 : goal.bounds-buffer-at-2
bounds-buffer-at-2 c =
    let e = c.copy_record.ensures in
    simp length-set (omega (
      arith,
      c.requires.1,
      ap length e,
      length-sets c.args.buffer.now c.args.at (part_at c.args.file.now c.args.p),
    ))

pub returns : goal.returns
returns c =
    copy_plain c.args.buffer.now _ (part_at c.args.file.now c.args.p) c.args.at
    (part_length c.args.file.now c.args.p c.requires.0) c.copy_record.ensures
