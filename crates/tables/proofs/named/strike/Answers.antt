-- `strike`: the first entries are those passed without x, and the entries still to come are as they were.
-- Assumes nothing.
use mathlib.Core.Path.{◌≡◌, refl, sym}
use mathlib.Core.Logic.{inl, inr}
use Prim.Native.Nat.{◌<◌}
use native.Mathlib.Omega.{arith}
use lib.ListN.{length, take, length-set}
use lib.Seq.{length-take-le}
use Rattle.lists.specs.Lists.{strike}
use Rattle.tables.proofs.NamedLaws.{cut_end, strike_left, strike_rest, strike_gone}
use Rattle.tables.proofs.named.strike.Goals as goal
use Rattle.tables.proofs.named.strike.Goals.{else-count-list, else-x-y, then-count-list, then-x-y}

pub loop-i-init : goal.loop-i-init
unfolding strike
loop-i-init c =
    let bounded = cut_end c.args.list.now c.args.count _
    (elim c.if-count-list.branch [ then-count-list w ↦ inl (w.end-is, w.if-count-list.true) | else-count-list w ↦ inr (w.if-count-list.false, w.end-is) ]) in
    (omega arith, omega arith, refl, refl, (λ k h. refl), bounded.0, bounded.1)

pub loop-i-preserved : goal.loop-i-preserved
loop-i-preserved c =
    let a = c.args in
    let l = c.loop-i in
    let b : l.i < length a.list.now = omega arith in
    elim c.if-x-y.branch [
      | then-x-y w ↦ rw (w.left-is, w.list-is) (
        omega arith,
        omega arith,
        simp length-set l.invariant.2,
        strike_left a.list.now l.list l.i l.left a.x b l.invariant.1 l.invariant.2 l.invariant.3 l.invariant.4
            w.if-x-y.true,
        strike_rest a.list.now l.list l.i l.left a.x b l.invariant.1 l.invariant.2 l.invariant.3 l.invariant.4,
        l.invariant.5,
        l.invariant.6,
      )
      | else-x-y w ↦ rw (w.left-is, w.list-is) (
        omega arith,
        omega arith,
        l.invariant.2,
        strike_gone a.list.now l.list l.i l.left a.x b l.invariant.1 l.invariant.2 l.invariant.3 l.invariant.4
            w.if-x-y.false,
        (λ k h. l.invariant.4 k (omega arith)),
        l.invariant.5,
        l.invariant.6,
      )
    ]

pub returns : goal.returns
returns c =
    let a = c.args in
    let l = c.loop-i in
    let e : l.i ≡ c.if-count-list.end = omega arith in
    let k : take l.left l.list ≡ strike a.x (take a.count a.list.now) = rw (e, l.invariant.6) at l.invariant.3 in
    (rw (← k) (sym (length-take-le l.left l.list (omega arith))), k)
