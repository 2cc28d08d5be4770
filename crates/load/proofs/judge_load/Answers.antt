-- `judge_load`: each way out is one of the cases of the definition.
-- Assumes nothing.
use mathlib.Core.Path.{sym}
use Rattle.flatten.proofs.Accepted.{not_accepted}
use Rattle.meeting.proofs.MeetingLaws.{judges_judgement}
use Rattle.load.proofs.LoadLaws.{judge_unsized, judge_short, judge_file}
use Rattle.load.proofs.judge_load.Goals as goal

pub returns-then-not-is_sized : goal.returns-then-not-is_sized
returns-then-not-is_sized c =
    let a = c.args in record {
      value = judge_unsized a.file.now a.lent.now (sym c.if-not-is_sized.ensures) _ c.refused_by.ensures;
      index = λ y. absurd (not_accepted _ y);
    }

pub returns-then-not-full_size : goal.returns-then-not-full_size
returns-then-not-full_size c =
    let a = c.args in record {
      value = judge_short a.file.now a.lent.now (sym c.if-not-is_sized.ensures) (sym c.if-not-full_size.ensures) _
          c.refused_by-then-not-full_size.ensures;
      index = λ y. absurd (not_accepted _ y);
    }

pub returns : goal.returns
returns c =
    let a = c.args in record {
      value = judge_file a.file.now a.lent.now (sym c.if-not-is_sized.ensures) (sym c.if-not-full_size.ensures) _
          (judges_judgement _ _ c.judge_indexed.ensures.judges);
      index = λ y. c.judge_indexed.ensures.index y;
    }
