-- `lay_components`: the entries of the primitives passed so far are laid, and what stands before the next is known.
-- Assumes nothing.
use Rattle.flatten.proofs.Accepted.{accepted_readable}
use mathlib.Core.Path.{refl}
use native.Mathlib.Omega.{arith}
use Rattle.lists.proofs.LayingLaws.{laid_start, laid_length}
use Rattle.laying.proofs.PassesLaws.{rows_requires, rows_before, rows_step, rows_end}
use Rattle.laying.proofs.rows.lay_components.Goals as goal

pub loop-p-init : goal.loop-p-init
loop-p-init c = (omega arith, refl, laid_start _ _)

pub drawn_at-requires : goal.drawn_at-requires
drawn_at-requires c = search (accepted_readable)

pub lay_component-before-requires : goal.lay_component-before-requires
lay_component-before-requires c =
    let l = c.loop-p in
    rows_requires c.args.file.now c.requires.0 c.args.components.now c.requires.1 l.p l.components
    l.before l.invariant.1 l.invariant.2
    _ c.drawn_at.ensures c.loop-p-test.true

pub loop-p-preserved : goal.loop-p-preserved
loop-p-preserved c =
    let l = c.loop-p in
    let before =
    rows_before c.args.file.now c.requires.0 c.args.components.now c.requires.1 l.p l.components
    l.before l.invariant.1 l.invariant.2
    _ c.drawn_at.ensures c.loop-p-test.true _ _ c.lay_component-before.ensures.0
    c.lay_component-before.ensures.1 in
    let laid =
    rows_step c.args.file.now c.requires.0 c.args.components.now c.requires.1 l.p l.components l.before
    l.invariant.1 l.invariant.2
    _ c.drawn_at.ensures c.loop-p-test.true _ _ c.lay_component-before.ensures.0
    c.lay_component-before.ensures.1 in
    (omega arith, before, laid)

pub shape_of-components : goal.shape_of-components
shape_of-components c = laid_length _ _ _ _ _ c.loop-p.invariant.2

pub returns : goal.returns
returns c =
    let l = c.loop-p in
    let e = rows_end c.args.file.now c.requires.0 c.args.components.now c.requires.1 l.p l.components l.before
    l.invariant.1 l.invariant.2
    (omega arith) in
    record { components_after = e.0; value = e.1 }
