-- `record_at`: the part handed on is the one of 24 bytes that starts at 24 times the position.
-- Assumes nothing.
use Rattle.component.proofs.RecordLaws.{record_at-read, record_at-past}
use Rattle.component.proofs.reader.record_at.Goals as goal

pub returns-then-p-file : goal.returns-then-p-file
returns-then-p-file c =
    let a = c.args in
    record_at-read a.file.now a.p c.read.result c.numbers.result c.if-p-file.true c.numbers.ensures c.read.ensures.0 c.read.ensures.1

pub returns : goal.returns
returns c = record_at-past c.args.file.now c.args.p c.if-p-file.false
