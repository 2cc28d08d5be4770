-- `lay_leads`: the wires to the targets passed so far are laid.
-- Assumes nothing.
use Prim.Native.Nat.{◌+◌, ◌≤◌}
use Rattle.lists.specs.Lists.{joined}
use Rattle.flatten.specs.Targets.{targets_in}
use Rattle.tables.specs.Words.{wire_place}
use Rattle.laying.specs.Laying.{Written, lead_by}
use Rattle.laying.proofs.wires.lay_leads.Given as goal

abbrev pub invariant-loop-k : goal.invariant-loop-k
invariant-loop-k l =
    (l.k ≤ l.count) × Written l.initial.wires (wire_place l.at) (joined (lead_by l.indexes l.from) (targets_in l.targets l.k)) l.wires (wire_place (l.at + l.k))
