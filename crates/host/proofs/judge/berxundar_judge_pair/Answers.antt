-- `berxundar_judge_pair`: the judgement, spoken with the earlier record; its number, position and earlier record are small enough for the sum.
-- Assumes nothing.
use mathlib.Core.Path.{sym, ap, ◌∙◌}
use native.Mathlib.Omega.{arith}
use mathlib.Core.List.{[]}
use Rattle.kinds.specs.Given.{spoken_pair, Verdict, verdict_gives}
use Rattle.meeting.proofs.MeetingLaws.{judges_judgement, judgement_small}
use Rattle.host.proofs.judge.berxundar_judge_pair.Goals as goal

pub overflow_add-result : goal.overflow_add-result
overflow_add-result c =
    let s = judgement_small c.args.file.now c.in-Err.refusal
    (sym (judges_judgement _ _ c.judge.ensures) ∙ c.in-Err.is) in
    omega (arith, s.number, s.position)

pub overflow_add-result-in-Err : goal.overflow_add-result-in-Err
overflow_add-result-in-Err c =
    let s = judgement_small c.args.file.now c.in-Err.refusal
    (sym (judges_judgement _ _ c.judge.ensures) ∙ c.in-Err.is) in
    omega (arith, s.number, s.position, s.earlier)

pub returns-in-Ok : goal.returns-in-Ok
returns-in-Ok c =
    ap (λ (v : Verdict). spoken_pair (verdict_gives v []))
    (sym c.in-Ok.is ∙ judges_judgement _ _ c.judge.ensures)

pub returns-in-Err : goal.returns-in-Err
returns-in-Err c =
    ap (λ (v : Verdict). spoken_pair (verdict_gives v []))
    (sym c.in-Err.is ∙ judges_judgement _ _ c.judge.ensures)
