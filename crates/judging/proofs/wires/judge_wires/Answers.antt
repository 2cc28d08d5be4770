-- `judge_wires`: the wires still to come agree, where they leave a marked component, exactly if all do.
-- Assumes nothing.
use mathlib.Core.Path.{sym, ◌∙◌}
use native.Mathlib.Omega.{arith}
use Rattle.lists.specs.Lists.{from}
use Rattle.lists.proofs.ListsLaws.{every_fails, every_next, every_end}
use Rattle.net.proofs.LoopsLaws.{from_start, every_map}
use Rattle.tables.specs.Words.{wire_in}
use Rattle.judging.proofs.wires.judge_wires.Goals as goal
use Rattle.judging.proofs.wires.judge_wires.Invariants.{agrees}

pub loop-k-init : goal.loop-k-init
loop-k-init c = (omega arith, λ xs l. rw (from_start c.args.counts.wires))

pub leaves_agreeing-requires : goal.leaves_agreeing-requires
leaves_agreeing-requires c =
    let k = c.loop-k.k in
    (omega (arith, c.requires.0), c.requires.1 k c.loop-k-test.true)

pub returns-then-not-leaves_agreeing : goal.returns-then-not-leaves_agreeing
returns-then-not-leaves_agreeing c =
    let a = c.args in
    let l = c.loop-k in
    λ xs m.
    every_fails (λ j. agrees a.components.now a.inputs.now a.outputs.now xs (wire_in a.wires.now j)) l.k a.counts.wires _
    (omega arith) (sym (c.leaves_agreeing.ensures xs m) ∙ c.if-not-leaves_agreeing.true) (l.invariant.1 xs m)
    ∙ every_map (agrees a.components.now a.inputs.now a.outputs.now xs) (wire_in a.wires.now) (from 0 a.counts.wires)

pub loop-k-preserved : goal.loop-k-preserved
loop-k-preserved c =
    let a = c.args in
    let l = c.loop-k in (
      omega arith,
      λ xs m.
          every_next (λ j. agrees a.components.now a.inputs.now a.outputs.now xs (wire_in a.wires.now j)) l.k a.counts.wires _
          (omega arith) (sym (c.leaves_agreeing.ensures xs m) ∙ c.if-not-leaves_agreeing.false) (l.invariant.1 xs m),
    )

pub returns : goal.returns
returns c =
    let a = c.args in
    let l = c.loop-k in
    λ xs m.
    every_end (λ j. agrees a.components.now a.inputs.now a.outputs.now xs (wire_in a.wires.now j)) l.k a.counts.wires _
    (omega arith) (l.invariant.1 xs m)
    ∙ every_map (agrees a.components.now a.inputs.now a.outputs.now xs) (wire_in a.wires.now) (from 0 a.counts.wires)
