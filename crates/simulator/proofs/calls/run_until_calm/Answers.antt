-- `run_until_calm`: the check of the net decides; where it passes the tables are a net, and the rounds are run.
-- Assumes nothing.
use Rattle.kinds.proofs.GivenLaws.{handed_on}
use Rattle.tables.specs.Tables.{tables_of}
use Rattle.net.proofs.NetLaws.{passed_net}
use Rattle.simulator.proofs.RunLaws.{run_refused, run_made}
use Rattle.simulator.proofs.calls.run_until_calm.Goals as goal

pub returns-in_err-check_net : goal.returns-in_err-check_net
returns-in_err-check_net c =
    let a = c.args in
    let came = tables_of a.components.now a.inputs.now a.outputs.now a.wires.now a.current.now a.following.now a.standing.now a.counts in
    rw (handed_on c.from_residual.result _ c.from_residual.ensures.1)
    (run_refused came a.time a.limit _ (rw c.new-lent.ensures at c.check_net.ensures) _ c.in_err-check_net.was)

pub net_run-requires : goal.net_run-requires
net_run-requires c =
    let a = c.args in
    let came = tables_of a.components.now a.inputs.now a.outputs.now a.wires.now a.current.now a.following.now a.standing.now a.counts in
    passed_net came _ (rw c.new-lent.ensures at c.check_net.ensures) c.in_ok-check_net.was

pub returns : goal.returns
returns c =
    let a = c.args in
    let came = tables_of a.components.now a.inputs.now a.outputs.now a.wires.now a.current.now a.following.now a.standing.now a.counts in
    let r = c.net_run in
    let left = tables_of a.components.now r.new.inputs r.new.outputs a.wires.now r.new.current r.new.following r.new.standing r.result.counts in
    run_made came a.time a.limit _ (rw c.new-lent.ensures at c.check_net.ensures) c.in_ok-check_net.was left r.result.counts r.result.rounds
    r.result.evaluations r.result.moved r.ensures
