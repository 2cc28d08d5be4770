-- `net_run`: nothing is linked yet; the rounds that are run are those of a net.
-- Assumes nothing.
use Rattle.tables.specs.Tables.{tables_of}
use Rattle.rounds.proofs.Sound.{net_within}
use Rattle.rounds.proofs.LinksLaws.{linked_none}
use Rattle.simulator.proofs.calls.net_run.Goals as goal

pub run_over-requires : goal.run_over-requires
run_over-requires c =
    let a = c.args in
    let came = tables_of a.components.now a.inputs.now a.outputs.now a.wires.now a.current.now a.following.now a.standing.now a.counts in
    (c.requires, linked_none a.wires.now a.counts.wires (net_within came c.requires).wires)
