-- `link`: the wires behind are linked in stored order.
-- Assumes nothing.
use Prim.Native.Nat.{◌-◌, ◌<◌}
use native.Mathlib.Omega.{arith}
use Rattle.lists.specs.Lists.{from}
use Rattle.rounds.proofs.LinksLaws.{links_start, links_new, links_next, links_end}
use Rattle.rounds.proofs.links.link.Goals as goal

pub loop-k-init : goal.loop-k-init
loop-k-init c =
    (omega arith, links_start c.args.wires.now c.args.count c.args.head.now c.args.after.now c.requires.2)

pub link_first-requires : goal.link_first-requires
link_first-requires c =
    let l = c.loop-k in (
      omega (arith, l.invariant.0, c.requires.0, c.loop-k-test.true),
      c.requires.1 (l.k - 1) (omega (arith, l.invariant.0, c.loop-k-test.true)),
      omega (arith, l.invariant.0, c.requires.3, c.loop-k-test.true),
    )

pub loop-k-preserved : goal.loop-k-preserved
loop-k-preserved c =
    let l = c.loop-k in
    let a = c.args in
    let b : 0 < l.k = omega (arith, c.loop-k-test.true) in (
      omega (arith, l.invariant.0),
      links_next a.wires.now a.count _ _ l.k b l.invariant.0
          (c.link_first.ensures a.count (from l.k (a.count - l.k)) (omega (arith, l.invariant.0, b))
          (links_new a.wires.now a.count l.head l.after l.k b) l.invariant.1),
    )

pub returns : goal.returns
returns c =
    let l = c.loop-k in
    links_end c.args.wires.now c.args.count l.head l.after l.k (omega arith) l.invariant.1
