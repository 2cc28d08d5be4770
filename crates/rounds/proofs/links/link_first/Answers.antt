-- `link_first`: the wire stands before those of its source, and no other component's wires move.
-- Assumes nothing.
use mathlib.Core.Path.{◌≡◌, ap}
use Prim.Native.Nat.{◌<◌}
use native.Mathlib.Omega.{arith}
use Rattle.tables.specs.declared.Wire.{Wire}
use Rattle.rounds.specs.Links.{source_in}
use Rattle.rounds.proofs.LinksLaws.{linked_first}
use Rattle.rounds.proofs.links.link_first.Goals as goal
use Rattle.rounds.proofs.links.link_first.Lts as lts
use Rattle.rounds.proofs.links.link_first.Tie as tie
use Rattle.rounds.proofs.links.link_first.Reads as reads

abbrev AfterWireAtWire : Type 0
AfterWireAtWire = lts.After-wire_at tie.the-claims reads.Pre reads.Post

-- The source.
source : (c : AfterWireAtWire) → c.wire_at-wire.result.src.comp.0 ≡ source_in c.args.wires.now c.args.k
source c = ap (λ (w : Wire). w.src.comp.0) c.wire_at-wire.ensures

few : (c : AfterWireAtWire) → c.wire_at-wire.result.src.comp.0 < 256
few c = omega (arith, source c, c.requires.1)

pub wire_at-wire-requires : goal.wire_at-wire-requires
wire_at-wire-requires c = c.requires.2

pub offset_bounds-head-source : goal.offset_bounds-head-source
offset_bounds-head-source c = omega (arith, few c.before)

pub bounds-head-source : goal.bounds-head-source
bounds-head-source c = few c.before.before

pub offset_bounds-head-source-2 : goal.offset_bounds-head-source-2
offset_bounds-head-source-2 c = omega (arith, few c.before.before.before.before)

pub bounds-head-source-2 : goal.bounds-head-source-2
bounds-head-source-2 c = few c.before.before.before.before

pub returns : goal.returns
returns c n order below new links =
    linked_first c.args.wires.now n c.args.head.now c.args.after.now order c.args.k _ c.requires.0 (source c.before.before.before.before)
    (few c.before.before.before.before) below new links
