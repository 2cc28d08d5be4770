-- `copy_record`: the bytes that are copied are the record's part.
-- Assumes nothing.
use native.Mathlib.Omega.{arith}
use Rattle.mend.proofs.CopyLaws.{copy_part}
use Rattle.mend.proofs.copying.copy_record.Goals as goal

pub returns : goal.returns
returns c =
    copy_part c.args.buffer.now c.copy_from_slice.new.self c.args.file.now c.args.at c.args.p _ _ c.requires.0 c.requires.1 (omega arith) (omega arith)
    c.copy_from_slice.ensures.after
