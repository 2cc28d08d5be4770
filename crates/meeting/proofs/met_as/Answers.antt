-- `met_as`: by the kinds of both records.
-- Assumes nothing.
use Rattle.meeting.proofs.MeetingLaws.{met_connections, met_maps, met_both}
use Rattle.meeting.proofs.met_as.Goals as goal

pub returns-then-earlier-later : goal.returns-then-earlier-later
returns-then-earlier-later c = search (met_connections)

pub returns-then-earlier-later-2 : goal.returns-then-earlier-later-2
returns-then-earlier-later-2 c = search (met_maps)

pub returns : goal.returns
returns c = search (met_both)
