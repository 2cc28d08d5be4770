-- `is_net`: the lists are tested where the rest is that of a net.
-- Assumes nothing.
use mathlib.Core.Path.{sym}
use native.Mathlib.Omega.{arith}
use Rattle.tables.proofs.SizesLaws.{full_size-sound}
use Rattle.net.proofs.NetLaws.{net_circuit, net_lists, circuit_within}
use Rattle.net.proofs.whole.is_net.Goals as goal

pub is_circuit-requires : goal.is_circuit-requires
is_circuit-requires c = c.requires

pub returns-then-not-is_circuit : goal.returns-then-not-is_circuit
returns-then-not-is_circuit c = net_circuit c.args.lent.now (sym c.if-not-is_circuit.ensures)

pub names-requires : goal.names-requires
names-requires c =
    let T = c.args.lent.now in
    let w = circuit_within T (sym c.if-not-is_circuit.ensures) in
    rw (c.counts-counts.ensures, c.current.ensures) (w.components, omega (arith, w.current, (full_size-sound T c.requires).current))

pub names-requires-2 : goal.names-requires-2
names-requires-2 c =
    let T = c.args.lent.now in
    let w = circuit_within T (sym c.if-not-is_circuit.ensures) in
    rw (c.counts-counts.ensures, c.following.ensures) (w.components, omega (arith, w.following, (full_size-sound T c.requires).following))

pub names-requires-3 : goal.names-requires-3
names-requires-3 c =
    let T = c.args.lent.now in
    let w = circuit_within T (sym c.if-not-is_circuit.ensures) in
    rw (c.counts-counts.ensures, c.standing.ensures) (w.components, omega (arith, w.standing, (full_size-sound T c.requires).standing))

pub returns : goal.returns
returns c =
    rw (c.names-3.ensures, c.names-2.ensures, c.names.ensures, c.counts-counts.ensures, c.current.ensures, c.following.ensures, c.standing.ensures)
    (net_lists c.args.lent.now (sym c.if-not-is_circuit.ensures))
