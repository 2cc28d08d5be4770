-- `lay_outputs`: the starting values of the primitives passed so far are laid.
-- Assumes nothing.
use Rattle.flatten.proofs.Accepted.{accepted_readable}
use native.Mathlib.Omega.{arith}
use Rattle.lists.proofs.LayingLaws.{laid_start, laid_length}
use Rattle.laying.proofs.PortsLaws.{outputs_requires, outputs_step, outputs_end_lem}
use Rattle.laying.proofs.rows.lay_outputs.Goals as goal

pub loop-p-init : goal.loop-p-init
loop-p-init c = (omega arith, laid_start _ _)

pub drawn_at-requires : goal.drawn_at-requires
drawn_at-requires c = search (accepted_readable)

pub lay_output-at-requires : goal.lay_output-at-requires
lay_output-at-requires c =
    let l = c.loop-p in
    outputs_requires c.args.file.now c.requires.0 c.args.outputs.now c.requires.1 l.p l.outputs l.at
    l.invariant.1
    _ c.drawn_at.ensures c.loop-p-test.true

pub loop-p-preserved : goal.loop-p-preserved
loop-p-preserved c =
    let l = c.loop-p in (
      omega arith,
      outputs_step c.args.file.now c.requires.0 c.args.outputs.now c.requires.1 l.p l.outputs l.at
          l.invariant.1
          _ c.drawn_at.ensures _ _ c.lay_output-at.ensures.0 c.lay_output-at.ensures.1,
    )

pub shape_of-outputs : goal.shape_of-outputs
shape_of-outputs c = laid_length _ _ _ _ _ c.loop-p.invariant.1

pub returns : goal.returns
returns c =
    let l = c.loop-p in
    outputs_end_lem c.args.file.now c.requires.0 c.args.outputs.now c.requires.1 l.p l.outputs l.at
    l.invariant.1 (omega arith)
