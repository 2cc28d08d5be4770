-- `round_in_order`: the tables are a net and the order is each wire once; the round is made in it.
-- Assumes nothing.
use mathlib.Core.Path.{refl}
use Rattle.tables.specs.Tables.{tables_of}
use Rattle.rounds.proofs.Sound.{net_within}
use Rattle.rounds.proofs.LinksLaws.{linked_none}
use Rattle.rounds.proofs.RoundLaws.{net_sources, net_wires}
use Rattle.simulator.specs.Ordered.{wires_by}
use Rattle.simulator.proofs.OrderedLaws.{made_room, made_net, made_each, made_long}
use Rattle.simulator.proofs.ordered.round_in_order.Goals as goal

pub link_by-requires : goal.link_by-requires
link_by-requires c =
    let a = c.args in
    let came = tables_of a.components.now a.inputs.now a.outputs.now a.wires.now a.current.now a.following.now a.standing.now a.counts in
    let none = c.requires in
    let z = made_net came a.order.now a.moved.now none in (
      (net_within came z).wires,
      made_long came a.order.now a.moved.now none,
      made_each came a.order.now a.moved.now none,
      net_sources came z,
      linked_none a.wires.now a.counts.wires (net_within came z).wires,
      net_wires came z,
    )

pub net_round-requires : goal.net_round-requires
net_round-requires c =
    let a = c.args in
    let came = tables_of a.components.now a.inputs.now a.outputs.now a.wires.now a.current.now a.following.now a.standing.now a.counts in (
      made_net came a.order.now a.moved.now c.requires,
      (made_room came a.order.now a.moved.now c.requires).1,
      λ h. (_, record { order = _; links = c.link_by.ensures; these = refl }),
    )

pub returns : goal.returns
returns c =
    let a = c.args in
    let came = tables_of a.components.now a.inputs.now a.outputs.now a.wires.now a.current.now a.following.now a.standing.now a.counts in
    c.net_round.ensures (wires_by came a.order.now) (λ h. record { order = _; links = c.link_by.ensures; these = refl })
