-- `is_driven`: one of the wires still to come enters the component exactly if one of all does.
-- Assumes nothing.
use borrow.Author.Tests.{eq-eqb, ne_eqb}
use mathlib.Core.Path.{◌≡◌, sym, ap, ◌∙◌}
use native.Mathlib.Omega.{arith}
use Rattle.lists.specs.Lists.{any}
use Rattle.lists.proofs.ListsLaws.{any_here, any_next, any_none}
use Rattle.net.proofs.LoopsLaws.{from_start}
use Rattle.tables.specs.declared.Wire.{Wire}
use Rattle.tables.specs.Words.{wire_in}
use Rattle.simulator.proofs.edits.is_driven.Goals as goal
use Rattle.simulator.proofs.edits.is_driven.Invariants.{enters}
use Rattle.simulator.proofs.edits.is_driven.Lts as lts
use Rattle.simulator.proofs.edits.is_driven.Tie as tie
use Rattle.simulator.proofs.edits.is_driven.Reads as reads

abbrev AfterWireAtWire : Type 0
AfterWireAtWire = lts.After-wire_at tie.the-claims reads.Pre reads.Post goal.the-invariant-loop-k goal.the-decreases-loop-k

-- Where the wire of a turn goes.
to-there : (c : AfterWireAtWire) → c.wire_at-wire.result.dst.comp.0
    ≡ (wire_in c.args.wires.now c.loop-k.k).dst.comp.0
to-there c = ap (λ (w : Wire). w.dst.comp.0) c.wire_at-wire.ensures

pub loop-k-init : goal.loop-k-init
loop-k-init c =
    let a = c.args in
    ap (any (enters a.wires.now a.i)) (from_start a.count)

pub wire_at-wire-requires : goal.wire_at-wire-requires
wire_at-wire-requires c = omega (arith, c.loop-k-test.true, c.requires)

pub returns-then-wire-i : goal.returns-then-wire-i
returns-then-wire-i c =
    let a = c.args in
    let l = c.loop-k in
    any_here (enters a.wires.now a.i) l.k a.count _ l.invariant (omega arith)
    (eq-eqb (wire_in a.wires.now l.k).dst.comp.0 a.i (sym (to-there c.before.before.before) ∙ c.if-wire-i.true))

pub loop-k-preserved : goal.loop-k-preserved
loop-k-preserved c =
    let a = c.args in
    let l = c.loop-k in
    any_next (enters a.wires.now a.i) l.k a.count _ l.invariant (omega arith)
    (ne_eqb (wire_in a.wires.now l.k).dst.comp.0 a.i (λ e. c.if-wire-i.false (to-there c.before.before.before ∙ e)))

pub returns : goal.returns
returns c =
    let a = c.args in
    let l = c.loop-k in
    any_none (enters a.wires.now a.i) l.k a.count _ l.invariant (omega arith)
