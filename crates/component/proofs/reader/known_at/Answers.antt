-- `known_at`: the part handed on is a record that check 3 passes.
-- Assumes nothing.
use Rattle.component.proofs.RecordLaws.{known_taken, record_at-past}
use Rattle.component.proofs.reader.known_at.Goals as goal

pub returns-then-p-file : goal.returns-then-p-file
returns-then-p-file c = search (known_taken)

pub returns : goal.returns
returns c = (record_at-past c.args.file.now c.args.p c.if-p-file.false).0
