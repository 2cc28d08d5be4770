-- `is_order`: the entries still to come name wires that are fresh exactly if all name wires and none stands twice.
-- Assumes nothing.
use mathlib.Core.Path.{refl}
use Prim.Native.Nat.{◌<◌}
use native.Mathlib.Omega.{arith}
use lib.ListN.{take, length-set}
use lib.Seq.{get_or-take, length-take-le}
use Rattle.net.proofs.MarksLaws.{naming_start, naming_slice-next}
use Rattle.rounds.specs.Round.{is_order}
use Rattle.rounds.proofs.links.is_order.Goals as goal

pub loop-entry-init : goal.loop-entry-init
unfolding is_order
loop-entry-init c =
    let a = c.args in
    (refl, naming_start a.count 1024 (take a.count a.order.now))

pub loop-entry-preserved : goal.loop-entry-preserved
loop-entry-preserved c =
    let a = c.args in
    let l = c.loop-entry in
    let h : l.entry-index < a.count = omega (arith, length-take-le a.count a.order.now c.requires.1) in
    let e = get_or-take a.count a.order.now l.entry-index 0 h in (
      simp length-set l.invariant.0,
      rw e
          (naming_slice-next a.count l.seen a.order.now l.entry-index a.count _ c.requires.1 l.invariant.1 h
          (omega (arith, e, c.if-count-named.false)) (omega (arith, e, c.if-count-named.false, l.invariant.0, c.requires.0))
          (rw e at c.if-seen-named-ne0.false)),
    )
