-- `is_order`: the entries still to come name wires that are fresh exactly if all name wires and none stands twice.
-- Assumes nothing.
use mathlib.Core.Path.{◌≡◌}
use lib.ListN.{length, drop}
use Rattle.net.proofs.MarksLaws.{naming}
use Rattle.rounds.specs.Round.{is_order}
use Rattle.rounds.proofs.links.is_order.Given as goal

abbrev pub invariant-loop-entry : goal.invariant-loop-entry
invariant-loop-entry l =
    (length l.seen ≡ 1024) × (naming l.count l.seen (drop l.entry-index l.entry-items) ≡ is_order l.count l.order)
