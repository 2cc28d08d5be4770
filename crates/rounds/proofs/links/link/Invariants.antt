-- `link`: the wires behind are linked in stored order.
-- Assumes nothing.
use Prim.Native.Nat.{◌-◌, ◌≤◌}
use Rattle.lists.specs.Lists.{from}
use Rattle.rounds.specs.Links.{IsLinked}
use Rattle.rounds.proofs.links.link.Given as goal

abbrev pub invariant-loop-k : goal.invariant-loop-k
invariant-loop-k l = (l.k ≤ l.count) × IsLinked l.wires l.count l.head l.after (from l.k (l.count - l.k))
