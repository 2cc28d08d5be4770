-- `round` over tables of wires: they are a net, and its wires are linked where a component is visited; the round leaves a net.
-- Assumes nothing.
use mathlib.Core.Path.{sym, ◌∙◌, subst}
use Prim.Native.Nat.{ℕ}
use Rattle.tables.specs.Tables.{tables_of, wires_in}
use Rattle.rounds.specs.Links.{Ready}
use Rattle.rounds.proofs.Sound.{net_within}
use Rattle.rounds.proofs.LinksLaws.{ready_follows}
use Rattle.rounds.proofs.RoundLaws.{net_sources, net_wires, net_listed, round_stored, round_bits_lem, round_wires}
use Rattle.simulator.proofs.Kept.{round_tables-done}
use Rattle.simulator.proofs.RunLaws.{round_net, net_current, bits_length}
use Rattle.simulator.proofs.runs.StoredEngine.round.Goals as goal

pub link_once-kept-requires : goal.link_once-kept-requires
link_once-kept-requires c =
    let a = c.args in
    let T = tables_of a.components.now a.inputs.now a.outputs.now a.self.now.wires.now a.current.now a.following.now a.standing.now a.counts in
    let z = c.requires.0.0 in
    ((net_within T z).wires, net_sources T z, c.requires.0.1, net_wires T z)

pub net_round-requires : goal.net_round-requires
net_round-requires c =
    let k = c.link_once-kept.ensures in (
      c.requires.0.0,
      c.requires.1,
      λ h. (_, ready_follows _ c.args.self.now.wires.now c.args.counts.wires _ _ (k.0 h) k.1),
    )

pub returns : goal.returns
returns c =
    let a = c.args in
    let T = tables_of a.components.now a.inputs.now a.outputs.now a.self.now.wires.now a.current.now a.following.now a.standing.now a.counts in
    let z = c.requires.0.0 in
    let k = c.link_once-kept in
    let r = c.net_round in
    let U = tables_of a.components.now r.new.inputs r.new.outputs a.self.now.wires.now r.new.current r.new.following r.new.standing r.result in
    let e = r.ensures (wires_in T) (λ h. ready_follows _ a.self.now.wires.now a.counts.wires _ _ (k.ensures.0 h) k.ensures.1) in
    let made = round_stored T U a.time e.0 in
    let net = round_net a.time T U z made in (
      made ∙ sym (round_tables-done T a.time z),
      round_bits_lem T a.time _ _ e.1,
      (
        net,
        subst (λ (n : ℕ). Ready k.result a.self.now.wires.now n k.new.head k.new.after) (sym (round_wires T U a.time made)) k.ensures.1,
      ),
      net_current a.time T z,
      bits_length a.time T z,
      (net_within T z).current,
      net_listed U net,
    )
