-- `mark_ends`: after the wires passed, a component is marked exactly if one of them joins it to component i, or if it
-- was.
-- Assumes nothing.
use mathlib.Core.Path.{◌≡◌, refl, sym, ap, ◌∙◌}
use Prim.Native.Nat.{ℕ}
use native.Mathlib.Omega.{arith}
use lib.ListN.{length-set}
use Rattle.tables.specs.declared.Wire.{Wire}
use Rattle.questions.specs.Asked.{comp_at, end_of}
use Rattle.questions.proofs.EndsLaws.{mark_here, mark_none}
use Rattle.questions.proofs.mark_ends.Goals as goal
use Rattle.questions.proofs.mark_ends.Goals.{else-comp_at-i, then-comp_at-i}
use Rattle.questions.proofs.mark_ends.Lts as lts
use Rattle.questions.proofs.mark_ends.Tie as tie
use Rattle.questions.proofs.mark_ends.Reads as reads

abbrev AfterCompAt : Type 0
AfterCompAt = lts.After-comp_at tie.the-claims reads.Pre reads.Post goal.the-invariant-loop-k goal.the-decreases-loop-k

abbrev AfterCompAtAt : Type 0
AfterCompAtAt = lts.After-comp_at2 tie.the-claims reads.Pre reads.Post goal.the-invariant-loop-k goal.the-decreases-loop-k

-- The ends of the wire of a turn.
near-end : (c : AfterCompAt) →
    c.comp_at.result ≡ end_of c.args.wires.now c.loop-k.k c.args.near
near-end c = c.comp_at.ensures ∙ ap (λ (w : Wire). comp_at w c.args.near) c.wire_at-wire.ensures

far-end : (c : AfterCompAtAt) →
    c.comp_at-at.result ≡ end_of c.args.wires.now c.loop-k.k c.args.far
far-end c = c.comp_at-at.ensures ∙ ap (λ (w : Wire). comp_at w c.args.far) c.wire_at-wire.ensures

pub loop-k-init : goal.loop-k-init
loop-k-init c = (refl, λ j. refl)

pub bounds-marks-at : goal.bounds-marks-at
bounds-marks-at c =
    omega (arith, far-end c.before, c.requires.0 c.loop-k.k c.loop-k-test.true)

pub loop-k-preserved : goal.loop-k-preserved
loop-k-preserved c =
    let a = c.args in
    let l = c.loop-k in
    let n = near-end c.before.before in
    let far : (x : ℕ) → x ≡ comp_at c.wire_at-wire.result a.far → x ≡ end_of a.wires.now l.k a.far =
    λ x e. e ∙ ap (λ (w : Wire). comp_at w a.far) c.wire_at-wire.ensures in
    elim c.if-comp_at-i.branch [
      | then-comp_at-i w ↦ rw w.marks-is (
        simp length-set l.invariant.0,
        mark_here a.wires.now a.marks.now l.marks a.near a.far a.i l.k l.invariant.1 w.comp_at-at.result
            (sym n ∙ w.if-comp_at-i.true) (far _ w.comp_at-at.ensures)
            (omega (arith, far _ w.comp_at-at.ensures, l.invariant.0, c.requires.0 l.k c.loop-k-test.true)),
      )
      | else-comp_at-i w ↦ rw w.marks-is (
        l.invariant.0,
        mark_none a.wires.now a.marks.now l.marks a.near a.far a.i l.k l.invariant.1
            (λ e. w.if-comp_at-i.false (n ∙ e)),
      )
    ]

pub shape_of-marks : goal.shape_of-marks
shape_of-marks c = omega arith

pub returns : goal.returns
returns c =
    let l = c.loop-k in
    let e : l.k ≡ c.args.count = omega arith in
    rw e at l.invariant.1
