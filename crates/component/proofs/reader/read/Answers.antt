-- `read`: check 3 alone decides.
-- Assumes nothing.
use Rattle.component.proofs.RecordLaws.{read_refused, read_taken}
use Rattle.std.proofs.Common.{ap, not}
use Rattle.component.proofs.reader.read.Goals as goal

pub returns-then-not-is_well_formed : goal.returns-then-not-is_well_formed
returns-then-not-is_well_formed c = read_refused c.args.r _ c.is_well_formed.ensures (ap not c.if-not-is_well_formed.true)

pub returns : goal.returns
returns c = read_taken c.args.r _ c.is_well_formed.ensures c.take.result (ap not c.if-not-is_well_formed.false) c.take.ensures
