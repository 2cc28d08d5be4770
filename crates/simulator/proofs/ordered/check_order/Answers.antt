-- `check_order`: the checks one after the other.
-- Assumes nothing.
use mathlib.Core.Bool.{not}
use mathlib.Core.Path.{ap}
use native.Mathlib.Omega.{arith}
use Rattle.kinds.specs.Given.{refusing}
use Rattle.kinds.proofs.GivenLaws.{handed_on}
use Rattle.net.proofs.NetLaws.{passed_net}
use Rattle.rounds.proofs.Sound.{net_within}
use Rattle.simulator.proofs.OrderedLaws.{ordered_short, ordered_unnet, ordered_repeats, ordered_passed, order_room}
use Rattle.simulator.proofs.ordered.check_order.Goals as goal

pub returns-then-order-moved : goal.returns-then-order-moved
returns-then-order-moved c =
    let a = c.args in
    rw c.refused_by.ensures (ap refusing (ordered_short a.lent.now a.order.now a.moved.now c.if-order-moved.true))

pub returns-in_err-check_net : goal.returns-in_err-check_net
returns-in_err-check_net c =
    let a = c.args in
    rw (handed_on c.from_residual.result _ c.from_residual.ensures.1)
    (ordered_unnet a.lent.now a.order.now a.moved.now c.if-order-moved.false _ c.check_net.ensures _ c.in_err-check_net.was)

pub is_order-requires : goal.is_order-requires
is_order-requires c =
    let a = c.args in
    let T = a.lent.now in
    let few = (net_within T (passed_net T _ c.check_net.ensures c.in_ok-check_net.was)).wires in
    rw c.counts.ensures (few, omega (arith, few, (order_room T a.order.now a.moved.now c.if-order-moved.false).0))

pub returns-then-not-is_order : goal.returns-then-not-is_order
returns-then-not-is_order c =
    let a = c.args in
    rw c.refused_by-then-not-is_order.ensures
    (ap refusing (ordered_repeats a.lent.now a.order.now a.moved.now c.if-order-moved.false _ c.check_net.ensures c.in_ok-check_net.was _
    (rw c.counts.ensures at c.is_order.ensures) (ap not c.if-not-is_order.true)))

pub returns : goal.returns
returns c =
    let a = c.args in
    ap refusing (ordered_passed a.lent.now a.order.now a.moved.now c.if-order-moved.false _ c.check_net.ensures c.in_ok-check_net.was _
    (rw c.counts.ensures at c.is_order.ensures) (ap not c.if-not-is_order.false))
