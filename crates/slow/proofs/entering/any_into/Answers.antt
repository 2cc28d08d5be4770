-- `any_into`: one of the targets still to come is an input of component i exactly if one of all is.
-- Assumes nothing.
use mathlib.Core.Path.{◌≡◌, ap, sym, ◌∙◌}
use Prim.Native.Nat.{ℕ}
use native.Mathlib.Omega.{arith}
use native.Mathlib.Nat.{sub-zero}
use borrow.Author.Tests.{eq-eqb, ne_eqb}
use lib.Dec.{eqb}
use Rattle.lists.specs.Lists.{from, any}
use Rattle.lists.proofs.ListsLaws.{any_here, any_next, any_none}
use Rattle.lists.proofs.MembersLaws.{any_map}
use Rattle.flatten.specs.declared.Pin.{Pin}
use Rattle.flatten.specs.Targets.{target_in}
use Rattle.tables.specs.declared.End.{End}
use Rattle.laying.specs.Laying.{end_by}
use Rattle.slow.proofs.entering.any_into.Goals as goal
use Rattle.slow.proofs.entering.any_into.Invariants.{into}
use Rattle.slow.proofs.entering.any_into.Lts as lts
use Rattle.slow.proofs.entering.any_into.Tie as tie
use Rattle.slow.proofs.entering.any_into.Reads as reads

abbrev AfterFlatPinTo : Type 0
AfterFlatPinTo = lts.After-flat_pin tie.the-claims reads.Pre reads.Post goal.the-invariant-loop-k goal.the-decreases-loop-k

-- The end at hand is that of target k.
here : (c : AfterFlatPinTo) →
    let a = c.args in
    c.flat_pin-to.result ≡ end_by a.indexes.now (target_in a.targets.now c.loop-k.k)
here c = c.flat_pin-to.ensures.0 ∙ ap (end_by c.args.indexes.now) c.target_at.ensures

pub loop-k-init : goal.loop-k-init
loop-k-init c =
    let a = c.args in
    ap (λ (m : ℕ). any (into a.indexes.now a.targets.now a.i) (from 0 m)) (sub-zero a.count)
    ∙ sym (any_map (λ (t : Pin). eqb (end_by a.indexes.now t).comp.0 a.i) (target_in a.targets.now) (from 0 a.count))

pub target_at-requires : goal.target_at-requires
target_at-requires c = omega (arith, c.requires.1, c.loop-k-test.true)

pub flat_pin-to-requires : goal.flat_pin-to-requires
flat_pin-to-requires c =
    (c.requires.0, rw c.target_at.ensures (c.requires.2 c.loop-k.k c.loop-k-test.true))

pub returns-then-to-i : goal.returns-then-to-i
returns-then-to-i c =
    let a = c.args in
    let l = c.loop-k in
    any_here (into a.indexes.now a.targets.now a.i) l.k a.count _ l.invariant c.loop-k-test.true
    (eq-eqb _ a.i (sym (ap (λ (e : End). e.comp.0) (here c.before.before.before)) ∙ c.if-to-i.true))

pub loop-k-preserved : goal.loop-k-preserved
loop-k-preserved c =
    let a = c.args in
    let l = c.loop-k in
    any_next (into a.indexes.now a.targets.now a.i) l.k a.count _ l.invariant c.loop-k-test.true
    (ne_eqb _ a.i (λ y. c.if-to-i.false (ap (λ (e : End). e.comp.0) (here c.before.before.before) ∙ y)))

pub returns : goal.returns
returns c =
    let a = c.args in
    let l = c.loop-k in
    any_none (into a.indexes.now a.targets.now a.i) l.k a.count _ l.invariant (omega arith)
