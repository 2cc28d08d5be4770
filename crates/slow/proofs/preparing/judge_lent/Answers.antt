-- `judge_lent`: each way out is one of the cases of the definition.
-- Assumes nothing.
use mathlib.Core.Path.{sym, ◌∙◌}
use Rattle.flatten.proofs.Accepted.{not_accepted}
use Rattle.meeting.proofs.MeetingLaws.{judges_judgement}
use Rattle.slow.proofs.PreparingLaws.{lent_unsized, lent_short, lent_judged}
use Rattle.slow.proofs.preparing.judge_lent.Goals as goal

pub returns-then-not-is_sized : goal.returns-then-not-is_sized
returns-then-not-is_sized c =
    let a = c.args in record { value = rw c.refused_by.ensures (lent_unsized a.file.now a.long 0 (sym c.is_sized.ensures ∙ c.if-not-is_sized.true)); index = λ y. absurd (not_accepted _ y) }

pub returns-then-not-long : goal.returns-then-not-long
returns-then-not-long c =
    let a = c.args in record {
      value = rw c.refused_by-then-not-long.ensures (lent_short a.file.now a.long 0 (sym c.is_sized.ensures ∙ c.if-not-is_sized.false)
          (c.if-not-long.true));
      index = λ y. absurd (not_accepted _ y);
    }

pub returns : goal.returns
returns c =
    let a = c.args in
    let j = c.judge_indexed in record {
      value = lent_judged a.file.now a.long _ (sym c.is_sized.ensures ∙ c.if-not-is_sized.false) (c.if-not-long.false)
          (judges_judgement _ _ j.ensures.judges);
      index = j.ensures.index;
    }
