-- `berxundar_judge`: the verdict, spoken; a refusal's number and position are small enough for the sum.
-- Assumes nothing.
use mathlib.Core.Path.{sym, ap, ◌∙◌}
use native.Mathlib.Omega.{arith}
use mathlib.Core.List.{[]}
use Rattle.kinds.specs.Given.{spoken, Verdict, verdict_gives}
use Rattle.flatten.proofs.JudgementLaws.{verdict_bound}
use Rattle.host.proofs.judge.berxundar_judge.Goals as goal

pub overflow_mul-result : goal.overflow_mul-result
overflow_mul-result c =
    omega (arith, verdict_bound c.args.file.now c.in-Err.refusal (sym c.verdict.ensures ∙ c.in-Err.is))

pub overflow_add-result : goal.overflow_add-result
overflow_add-result c =
    omega (arith, verdict_bound c.args.file.now c.in-Err.refusal (sym c.verdict.ensures ∙ c.in-Err.is))

pub returns-in-Ok : goal.returns-in-Ok
returns-in-Ok c = ap (λ (v : Verdict). spoken (verdict_gives v [])) (sym c.in-Ok.is ∙ c.verdict.ensures)

pub returns-in-Err : goal.returns-in-Err
returns-in-Err c = ap (λ (v : Verdict). spoken (verdict_gives v [])) (sym c.in-Err.is ∙ c.verdict.ensures)
