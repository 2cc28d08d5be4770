-- `numbers`: each number is read at its offset.
-- Assumes nothing.
use Rattle.component.proofs.RecordLaws.{numbers_read}
use Rattle.component.proofs.reader.numbers.Goals as goal

pub returns : goal.returns
returns c = search (numbers_read)
