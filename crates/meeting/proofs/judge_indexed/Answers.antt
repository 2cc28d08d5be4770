-- `judge_indexed`: the verdict, and what it is against.
-- Assumes nothing.
use Rattle.component.specs.Record.{record_at}
use mathlib.Core.Path.{sym, ◌∙◌}
use Rattle.meeting.proofs.MeetingLaws.{judgement_judges, against_accepted}
use Rattle.meeting.proofs.judge_indexed.Goals as goal

pub returns : goal.returns
returns c = record { judges = search (judgement_judges); index = λ z. c.verdict_indexed-verdict.ensures.index (against_accepted (record_at c.args.file.now) _ (sym c.against.ensures ∙ z)) }
