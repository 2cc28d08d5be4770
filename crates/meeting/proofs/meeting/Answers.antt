-- `meeting`: the earlier record stands before the later, so its position fits.
-- Assumes nothing.
use native.Mathlib.Omega.{arith}
use Rattle.component.specs.Record.{record_at}
use Rattle.checks.proofs.ChecksLaws.{earlier_most}
use Rattle.meeting.proofs.MeetingLaws.{meeting_is}
use Rattle.meeting.proofs.meeting.Goals as goal

pub overflow_cast-result : goal.overflow_cast-result
overflow_cast-result c = omega (arith, earlier_most (record_at c.args.file.now) c.args.position, c.earlier_of-earlier.ensures)

pub returns : goal.returns
returns c = search (meeting_is)
