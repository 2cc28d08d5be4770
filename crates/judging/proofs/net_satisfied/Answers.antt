-- `net_satisfied`: no list names anything; or one names a component that does not agree; or the wires decide.
-- Assumes nothing.
use mathlib.Core.Path.{◌∙◌, ap}
use mathlib.Core.List.{[]}
use native.Mathlib.Omega.{arith}
use lib.ListN.{take}
use Rattle.lists.specs.Lists.{every}
use Rattle.tables.specs.declared.Counts.{Counts}
use Rattle.judging.specs.Judged.{component_agrees}
use Rattle.lists.proofs.ListsLaws.{replicate_zero}
use Rattle.rounds.proofs.Sound.{net_within, current_in, following_in, standing_in}
use Rattle.rounds.proofs.RoundLaws.{net_wires}
use Rattle.rounds.proofs.ListedLaws.{listed_none}
use Rattle.judging.proofs.JudgingLaws.{net_compare, current_judge, following_judge, standing_judge, none_judged, current_fails, following_fails, standing_fails, wires_decide}
use Rattle.judging.proofs.net_satisfied.Goals as goal

pub overflow_add-counts : goal.overflow_add-counts
overflow_add-counts c =
    let w = net_within c.args.lent.now c.requires in
    rw c.counts-counts.ensures (omega (arith, w.current, w.following))

pub overflow_add-counts-2 : goal.overflow_add-counts-2
overflow_add-counts-2 c =
    let w = net_within c.args.lent.now c.requires in
    rw c.counts-counts.ensures (omega (arith, w.current, w.following, w.standing))

pub returns-then-counts-eq0 : goal.returns-then-counts-eq0
returns-then-counts-eq0 c = none_judged c.args.lent.now c.requires (rw (← c.counts-counts.ensures) c.if-counts-eq0.true)

pub judge_list-requires : goal.judge_list-requires
judge_list-requires c =
    let T = c.args.lent.now in
    rw (c.counts-counts.ensures, c.components-components.ensures, c.inputs-inputs.ensures, c.outputs-outputs.ensures, c.current.ensures) (
      omega arith,
      omega (arith, current_in T c.requires),
      λ j h. current_judge T c.requires j (omega (arith, h)),
      λ x h n. absurd (n (replicate_zero 256 x)),
    )

pub returns-then-not-judge_list : goal.returns-then-not-judge_list
returns-then-not-judge_list c =
    current_fails c.args.lent.now c.requires
    (rw (c.counts-counts.ensures, c.components-components.ensures, c.inputs-inputs.ensures, c.outputs-outputs.ensures, c.current.ensures)
    at c.if-not-judge_list.ensures.0)

pub judge_list-requires-2 : goal.judge_list-requires-2
judge_list-requires-2 c =
    let T = c.args.lent.now in
    let r = c.judge_list in (
      omega (arith, r.auto.should),
      rw c.following.ensures (omega (arith, following_in T c.requires, ap (λ (m : Counts). m.following) c.counts-counts.ensures)),
      rw (c.components-components.ensures, c.inputs-inputs.ensures, c.outputs-outputs.ensures, c.following.ensures)
          (λ j h. following_judge T c.requires j (omega (arith, h, ap (λ (m : Counts). m.following) c.counts-counts.ensures))),
      (r.ensures.1 (c.if-not-judge_list.false)).0,
    )

pub returns-then-not-judge_list-2 : goal.returns-then-not-judge_list-2
returns-then-not-judge_list-2 c =
    following_fails c.args.lent.now c.requires
    ((rw (c.components-components.ensures, c.inputs-inputs.ensures, c.outputs-outputs.ensures, c.following.ensures) at c.if-not-judge_list-2.ensures.0)
    ∙ ap (λ (m : Counts). every (component_agrees c.args.lent.now) (take m.following c.args.lent.now.following)) c.counts-counts.ensures)

pub judge_list-requires-3 : goal.judge_list-requires-3
judge_list-requires-3 c =
    let T = c.args.lent.now in
    let r = c.judge_list-2 in (
      omega (arith, c.judge_list.auto.should, r.auto.should),
      rw c.standing.ensures (omega (arith, standing_in T c.requires, ap (λ (m : Counts). m.standing) c.counts-counts.ensures)),
      rw (c.components-components.ensures, c.inputs-inputs.ensures, c.outputs-outputs.ensures, c.standing.ensures)
          (λ j h. standing_judge T c.requires j (omega (arith, h, ap (λ (m : Counts). m.standing) c.counts-counts.ensures))),
      (r.ensures.1 (c.if-not-judge_list-2.false)).0,
    )

pub returns-then-not-judge_list-3 : goal.returns-then-not-judge_list-3
returns-then-not-judge_list-3 c =
    standing_fails c.args.lent.now c.requires
    ((rw (c.components-components.ensures, c.inputs-inputs.ensures, c.outputs-outputs.ensures, c.standing.ensures) at c.if-not-judge_list-3.ensures.0)
    ∙ ap (λ (m : Counts). every (component_agrees c.args.lent.now) (take m.standing c.args.lent.now.standing)) c.counts-counts.ensures)

pub judge_wires-requires : goal.judge_wires-requires
judge_wires-requires c =
    rw (c.counts-counts.ensures, c.components-components.ensures, c.inputs-inputs.ensures, c.outputs-outputs.ensures, c.wires.ensures)
    (net_wires c.args.lent.now c.requires, net_compare c.args.lent.now c.requires)

pub returns : goal.returns
returns c =
    let e2 = c.if-not-judge_list.false in
    let e3 = c.if-not-judge_list-2.false in
    let e4 = c.if-not-judge_list-3.false in
    let r = c.judge_list.ensures in
    let r2 = c.judge_list-2.ensures in
    let r3 = c.judge_list-3.ensures in
    let m = c.counts-counts.ensures in
    let cs = c.components-components.ensures in
    let ins = c.inputs-inputs.ensures in
    let outs = c.outputs-outputs.ensures in
    wires_decide c.args.lent.now c.requires
    (rw (m, cs, ins, outs, c.current.ensures) at c.if-not-judge_list.ensures.0)
    (rw (m, cs, ins, outs, c.following.ensures) at c.if-not-judge_list-2.ensures.0)
    (rw (m, cs, ins, outs, c.standing.ensures) at c.if-not-judge_list-3.ensures.0) _
    (rw (m, cs, ins, outs, c.current.ensures, c.following.ensures, c.standing.ensures, c.wires.ensures)
    at (c.judge_wires.ensures _ ((r3.1 e4).1 _ ((r2.1 e3).1 _ ((r.1 e2).1 [] listed_none)))))
