-- `judge_list`: the entries passed so far agree, and they are marked.
-- Assumes nothing.
use mathlib.Core.Path.{refl, ◌∙◌}
use mathlib.Core.List.{◌++◌}
use native.Mathlib.Omega.{arith}
use lib.ListN.{take}
use Rattle.std.proofs.lemmas.Grind.{common_steps}
use Rattle.judging.proofs.JudgingLaws.{listed_entry}
use Rattle.judging.proofs.components.judge_list.Goals as goal

pub loop-entry-preserved : goal.loop-entry-preserved
loop-entry-preserved c =
    let a = c.args in
    let l = c.loop-entry in
    let r = c.judge_once in (
      r.auto.should ∙ l.invariant.0,
      grind (arith, common_steps),
      r.ensures.1 c.if-not-judge_once.false,
      λ xs m. listed_entry _ (take a.count a.list.now) xs l.entry-index _ c.loop-entry-test.true refl
          (r.ensures.2 (xs ++ take l.entry-index (take a.count a.list.now)) (l.invariant.3 xs m)),
    )

pub returns : goal.returns
returns c =
    let l = c.loop-entry in
    (grind (arith, common_steps), λ q. (l.invariant.2, λ xs m. grind (arith, common_steps, l.invariant.3 xs m)))
