-- `load`: refused by its own checks, or filled.
-- Assumes nothing.
use mathlib.Core.Path.{sym, ap, ◌∙◌}
use mathlib.Core.Bool.{Bool}
use Rattle.kinds.proofs.GivenLaws.{handed_on}
use Rattle.slow.specs.Slow.{slow_tables_of, slow_verdict}
use Rattle.slow.proofs.PreparingLaws.{lent_long, lent_accepted}
use Rattle.slow.proofs.CallsLaws.{load_refused, load_done}
use Rattle.slow.proofs.loading.load.Goals as goal

pub returns-in_err-judge_lent : goal.returns-in_err-judge_lent
returns-in_err-judge_lent c m =
    rw (handed_on c.from_residual.result _ c.from_residual.ensures.1)
    (load_refused c.args.file.now (slow_tables_of c.args.inputs.now c.args.outputs.now c.args.current.now c.args.following.now c.args.standing.now m) _
    (sym c.in_err-judge_lent.was ∙ c.judge_lent.ensures.value
    ∙ ap (λ (b : Bool). slow_verdict c.args.file.now b 0) (c.are_full-long.ensures m)))

pub fill-requires : goal.fill-requires
fill-requires c =
    let h = sym c.in_ok-judge_lent.was ∙ c.judge_lent.ensures.value in (
      lent_accepted c.args.file.now c.are_full-long.result h,
      λ m. sym (c.are_full-long.ensures m) ∙ lent_long c.args.file.now c.are_full-long.result h,
    )

pub returns : goal.returns
returns c m =
    load_done c.args.file.now (slow_tables_of c.args.inputs.now c.args.outputs.now c.args.current.now c.args.following.now c.args.standing.now m) _
    (sym c.in_ok-judge_lent.was ∙ c.judge_lent.ensures.value
    ∙ ap (λ (b : Bool). slow_verdict c.args.file.now b 0) (c.are_full-long.ensures m))
    (c.fill.ensures m)
