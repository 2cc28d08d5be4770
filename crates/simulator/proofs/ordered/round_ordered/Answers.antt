-- `round_ordered`: the checks decide; where none refuses the round is made in the order.
-- Assumes nothing.
use Rattle.kinds.proofs.GivenLaws.{handed_on, refusing_ok}
use Rattle.tables.specs.Tables.{tables_of}
use Rattle.simulator.specs.Ordered.{ordered_number}
use Rattle.simulator.proofs.OrderedLaws.{ordered_refused, ordered_made}
use Rattle.simulator.proofs.ordered.round_ordered.Goals as goal

pub returns-in_err-check_order : goal.returns-in_err-check_order
returns-in_err-check_order c =
    let a = c.args in
    let came = tables_of a.components.now a.inputs.now a.outputs.now a.wires.now a.current.now a.following.now a.standing.now a.counts in
    rw (handed_on c.from_residual.result _ c.from_residual.ensures.1)
    (ordered_refused came a.order.now a.moved.now a.time _ _ (rw c.new-lent.ensures at c.check_order.ensures) c.in_err-check_order.was)

pub round_in_order-requires : goal.round_in_order-requires
round_in_order-requires c =
    let a = c.args in
    let came = tables_of a.components.now a.inputs.now a.outputs.now a.wires.now a.current.now a.following.now a.standing.now a.counts in
    refusing_ok (ordered_number came a.order.now a.moved.now) _ (rw c.new-lent.ensures at c.check_order.ensures) c.in_ok-check_order.was

pub returns : goal.returns
returns c =
    let a = c.args in
    let came = tables_of a.components.now a.inputs.now a.outputs.now a.wires.now a.current.now a.following.now a.standing.now a.counts in
    let none = refusing_ok (ordered_number came a.order.now a.moved.now) _ (rw c.new-lent.ensures at c.check_order.ensures) c.in_ok-check_order.was in
    let r = c.round_in_order in
    let U = tables_of a.components.now r.new.inputs r.new.outputs a.wires.now r.new.current r.new.following r.new.standing r.result in
    ordered_made came a.order.now a.moved.now none a.time U r.result _ r.ensures.0 r.ensures.1
