-- `round_of_net`: nothing is linked yet; the engine's round of a net is the round.
-- Assumes nothing.
use mathlib.Core.Path.{◌∙◌}
use Rattle.tables.specs.Tables.{tables_of}
use Rattle.rounds.proofs.Sound.{net_within}
use Rattle.rounds.proofs.LinksLaws.{linked_none}
use Rattle.simulator.proofs.Kept.{round_tables-done}
use Rattle.simulator.proofs.calls.round_of_net.Goals as goal

pub round-requires : goal.round-requires
round-requires c =
    let a = c.args in
    let came = tables_of a.components.now a.inputs.now a.outputs.now a.wires.now a.current.now a.following.now a.standing.now a.counts in
    ((c.requires.0, linked_none a.wires.now a.counts.wires (net_within came c.requires.0).wires), c.requires.1)

pub returns : goal.returns
returns c =
    let a = c.args in
    let came = tables_of a.components.now a.inputs.now a.outputs.now a.wires.now a.current.now a.following.now a.standing.now a.counts in
    (c.round.ensures.0 ∙ round_tables-done came a.time c.requires.0, c.round.ensures.1)
