-- `list_marked`: the list holds the marked ones of the components passed.
-- Assumes nothing.
use mathlib.Core.Path.{◌≡◌, refl, sym, ◌∙◌}
use Prim.Native.Nat.{◌<◌}
use native.Mathlib.Omega.{arith}
use lib.ListN.{length-set}
use lib.Seq.{get_or-take, length-take-le}
use Rattle.tables.proofs.NamedLaws.{overlay_start}
use Rattle.questions.proofs.EndsLaws.{list_here, list_none}
use Rattle.questions.proofs.list_marked.Goals as goal
use Rattle.questions.proofs.list_marked.Goals.{else-mark-eq1, then-mark-eq1}

pub loop-j-init : goal.loop-j-init
loop-j-init c = (omega arith, refl, refl, overlay_start _)

pub loop-j-preserved : goal.loop-j-preserved
loop-j-preserved c =
    let a = c.args in
    let l = c.loop-j in
    let inside : l.j < a.count = omega (arith, length-take-le a.count a.marks.now (omega arith)) in
    let same = get_or-take a.count a.marks.now l.j 0 inside in
    elim c.if-mark-eq1.branch [
      | then-mark-eq1 w ↦ let r =
          list_here a.marks.now a.list.now l.list l.listed l.j l.invariant.2 l.invariant.3 (omega arith)
          (sym same ∙ w.if-mark-eq1.true) in
          rw (w.listed-is, w.list-is) (omega arith, simp length-set l.invariant.1, r.0, r.1)
      | else-mark-eq1 w ↦ let r =
          list_none a.marks.now a.list.now l.list l.listed l.j l.invariant.2 l.invariant.3
          (λ e. w.if-mark-eq1.false (same ∙ e)) in
          rw (w.listed-is, w.list-is) (omega arith, l.invariant.1, r.0, r.1)
    ]

pub shape_of-list : goal.shape_of-list
shape_of-list c = omega arith

pub returns : goal.returns
returns c =
    let a = c.args in
    let l = c.loop-j in
    let e : l.j ≡ a.count = omega (arith, length-take-le a.count a.marks.now (omega arith)) in
    (rw e at l.invariant.2, rw e at l.invariant.3)
