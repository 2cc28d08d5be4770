-- `loose_at`: the part handed on is taken apart by its record kind.
-- Assumes nothing.
use Rattle.component.proofs.RecordLaws.{loose_refused, loose_taken, loose_past}
use Rattle.component.proofs.reader.loose_at.Goals as goal

pub returns-then-r : goal.returns-then-r
returns-then-r c = search (loose_refused)

pub returns-then-p-file : goal.returns-then-p-file
returns-then-p-file c = search (loose_taken)

pub returns : goal.returns
returns c = loose_past c.args.file.now c.args.p c.if-p-file.false
