-- `first11`: the invariant: no record before p fails, and the sums are the ports of the primitives before p.
-- Assumes nothing.
use Rattle.component.specs.Record.{inputs_of, outputs_of}
use Rattle.lists.proofs.TestsLaws.{or_left, or_right}
use lib.Dec.{ltb}
use borrow.Author.Tests.{ltb-false}
use mathlib.Core.Path.{refl}
use Prim.Native.Nat.{◌+◌}
use native.Mathlib.Omega.{arith}
use Rattle.component.specs.Record.{record_at}
use Rattle.component.specs.Drawing.{fails11}
use Rattle.checks.proofs.PassesLaws.{none_start, none_next, first_this, sum_next, overfull}
use Rattle.checks.proofs.passes.first11.Goals as goal

pub loop-p-init : goal.loop-p-init
loop-p-init c = (none_start (fails11 (record_at c.args.file.now)), refl, refl, omega arith, omega arith)

pub returns-then-inputs-outputs : goal.returns-then-inputs-outputs
returns-then-inputs-outputs c =
    let s = c.args.file.now in
    let l = c.loop-p in
    let read = c.ports_at-ports.ensures in
    first_this (fails11 (record_at s)) _ _ l.invariant.0 _
    (overfull s l.p l.inputs l.outputs _ _ l.invariant.1 l.invariant.2 l.invariant.3 l.invariant.4 read.0 read.2)
    c.if-inputs-outputs.true c.loop-p-test.true

pub loop-p-preserved : goal.loop-p-preserved
loop-p-preserved c =
    let s = c.args.file.now in
    let l = c.loop-p in
    let read = c.ports_at-ports.ensures in
    let i = l.inputs + c.ports_at-ports.result.inputs in
    let o = l.outputs + c.ports_at-ports.result.outputs in (
      none_next (fails11 (record_at s)) l.p 0 l.invariant.0 _
          (overfull s l.p l.inputs l.outputs _ _ l.invariant.1 l.invariant.2 l.invariant.3 l.invariant.4 read.0 read.2) c.if-inputs-outputs.false,
      sum_next s inputs_of l.p l.inputs _ l.invariant.1 read.0,
      sum_next s outputs_of l.p l.outputs _ l.invariant.2 read.2,
      ltb-false 1024 i (or_left (ltb 1024 i) (ltb 1024 o) c.if-inputs-outputs.false),
      ltb-false 1024 o (or_right (ltb 1024 i) (ltb 1024 o) c.if-inputs-outputs.false),
    )
