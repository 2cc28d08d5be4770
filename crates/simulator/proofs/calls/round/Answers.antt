-- `round`: with room for the bits the check of the net decides; where it passes the tables are a net, and the round is made.
-- Assumes nothing.
use native.Mathlib.Omega.{arith}
use Rattle.kinds.proofs.GivenLaws.{handed_on}
use Rattle.tables.specs.Tables.{tables_of}
use Rattle.net.proofs.NetLaws.{passed_net}
use Rattle.simulator.proofs.CallsLaws.{round_short, round_refused, round_made}
use Rattle.simulator.proofs.calls.round.Goals as goal

pub returns-then-moved-lt-WORDS : goal.returns-then-moved-lt-WORDS
returns-then-moved-lt-WORDS c =
    let a = c.args in
    let came = tables_of a.components.now a.inputs.now a.outputs.now a.wires.now a.current.now a.following.now a.standing.now a.counts in
    rw c.refused_by.ensures (round_short came a.time a.moved.now c.if-moved-lt-WORDS.true)

pub returns-in_err-check_net : goal.returns-in_err-check_net
returns-in_err-check_net c =
    let a = c.args in
    let came = tables_of a.components.now a.inputs.now a.outputs.now a.wires.now a.current.now a.following.now a.standing.now a.counts in
    rw (handed_on c.from_residual.result _ c.from_residual.ensures.1)
    (round_refused came a.time a.moved.now (omega arith) _ (rw c.new-lent.ensures at c.check_net.ensures) _ c.in_err-check_net.was)

pub round_of_net-requires : goal.round_of_net-requires
round_of_net-requires c =
    let a = c.args in
    let came = tables_of a.components.now a.inputs.now a.outputs.now a.wires.now a.current.now a.following.now a.standing.now a.counts in
    (passed_net came _ (rw c.new-lent.ensures at c.check_net.ensures) c.in_ok-check_net.was, omega arith)

pub returns : goal.returns
returns c =
    let a = c.args in
    let came = tables_of a.components.now a.inputs.now a.outputs.now a.wires.now a.current.now a.following.now a.standing.now a.counts in
    let r = c.round_of_net in
    let left = tables_of a.components.now r.new.inputs r.new.outputs a.wires.now r.new.current r.new.following r.new.standing r.result in
    round_made came a.time a.moved.now (omega arith) _ (rw c.new-lent.ensures at c.check_net.ensures) c.in_ok-check_net.was left r.result _
    r.ensures.0 r.ensures.1
