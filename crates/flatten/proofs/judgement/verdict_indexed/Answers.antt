-- `verdict_indexed`: check 1, then the checks before the index, and those that ask it.
-- Assumes nothing.
use mathlib.Core.Bool.{not}
use mathlib.Core.Path.{ap}
use native.Mathlib.Omega.{arith}
use Rattle.flatten.proofs.Accepted.{not_accepted}
use Rattle.kinds.proofs.GivenLaws.{handed_on}
use Rattle.flatten.proofs.JudgementLaws.{sized_most, verdict_sized, verdict_early, verdict_late, readable_before}
use Rattle.flatten.proofs.judgement.verdict_indexed.Goals as goal

pub returns-then-not-is_sized : goal.returns-then-not-is_sized
returns-then-not-is_sized c = record { value = rw c.refused_by.ensures (search (verdict_sized)); index = λ z. absurd (not_accepted _ z) }

pub judge_early-requires : goal.judge_early-requires
judge_early-requires c = search (sized_most)

pub returns-in_err-judge_early : goal.returns-in_err-judge_early
returns-in_err-judge_early c =
    let h = handed_on c.from_residual.result _ c.from_residual.ensures.1 in
    record {
      value = rw h (verdict_early c.args.file.now _ c.is_sized.ensures _ _ (ap not c.if-not-is_sized.false) c.judge_early.ensures c.in_err-judge_early.was);
      index = λ z. absurd (not_accepted _ (rw h at z));
    }

pub fill_index-requires : goal.fill_index-requires
fill_index-requires c = (
  readable_before c.args.file.now 12 (omega arith) (c.judge_early.ensures.passed c.in_ok-judge_early.was),
  sized_most c.args.file.now _ c.is_sized.ensures (ap not c.if-not-is_sized.false),
  c.requires,
)

pub judge_late-requires : goal.judge_late-requires
judge_late-requires c = (c.fill_index.ensures, c.judge_early.ensures.passed c.in_ok-judge_early.was)

pub returns : goal.returns
returns c =
    record {
      value = verdict_late c.args.file.now _ c.is_sized.ensures _ (ap not c.if-not-is_sized.false) c.judge_late.ensures;
      index = λ z. c.fill_index.ensures;
    }
