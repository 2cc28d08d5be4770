-- `consts_held`: each Const still to come holds its value exactly if each of all does.
-- Assumes nothing.
use mathlib.Core.Path.{ap, sym, ◌∙◌}
use Prim.Native.Nat.{ℕ}
use native.Mathlib.Omega.{arith}
use native.Mathlib.Nat.{sub-zero}
use Rattle.lists.specs.Lists.{from, every}
use Rattle.lists.proofs.ListsLaws.{every_fails, every_next, every_end}
use Rattle.net.specs.Parts.{held_at}
use Rattle.slow.proofs.preparing.consts_held.Goals as goal

pub loop-i-init : goal.loop-i-init
loop-i-init c =
    let a = c.args in
    ap (λ (m : ℕ). every (held_at a.components.now a.outputs.now) (from 0 m)) (sub-zero a.count)

pub row_held-requires : goal.row_held-requires
row_held-requires c = c.requires c.loop-i.i c.loop-i-test.true

pub returns-then-not-row_held : goal.returns-then-not-row_held
returns-then-not-row_held c =
    let a = c.args in
    let l = c.loop-i in
    every_fails (held_at a.components.now a.outputs.now) l.i a.count _ c.loop-i-test.true
    (sym c.row_held.ensures ∙ c.if-not-row_held.true) l.invariant

pub loop-i-preserved : goal.loop-i-preserved
loop-i-preserved c =
    let a = c.args in
    let l = c.loop-i in
    every_next (held_at a.components.now a.outputs.now) l.i a.count _ c.loop-i-test.true
    (sym c.row_held.ensures ∙ c.if-not-row_held.false) l.invariant

pub returns : goal.returns
returns c =
    let a = c.args in
    let l = c.loop-i in
    every_end (held_at a.components.now a.outputs.now) l.i a.count _ (omega arith) l.invariant
