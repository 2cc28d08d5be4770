-- `against`: by the verdict, and by its number.
-- Assumes nothing.
use Rattle.meeting.proofs.MeetingLaws.{against_other, against_met}
use Rattle.meeting.proofs.against.Goals as goal

pub returns-then-refusal-ne13 : goal.returns-then-refusal-ne13
returns-then-refusal-ne13 c = search (against_other)

pub returns : goal.returns
returns c = search (against_met)
