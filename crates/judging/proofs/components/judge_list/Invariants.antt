-- `judge_list`: the entries passed so far agree, and they are marked.
-- Assumes nothing.
use mathlib.Core.Path.{◌≡◌}
use mathlib.Core.Bool.{Bool, true}
use mathlib.Core.List.{List, [], ◌++◌}
use Prim.Native.Nat.{ℕ}
use lib.ListN.{length, take}
use Rattle.lists.specs.Lists.{every}
use Rattle.tables.specs.Words.{no_counts}
use Rattle.net.specs.Parts.{lent}
use Rattle.rounds.specs.Links.{IsListed}
use Rattle.judging.specs.Judged.{component_agrees}
use Rattle.judging.specs.Steps.{MarkedAgree}
use Rattle.judging.proofs.components.judge_list.Given as goal

abbrev pub agrees : List ℕ → List ℕ → List ℕ → ℕ → Bool
agrees cs is os = component_agrees (lent cs is os [] no_counts)

abbrev pub invariant-loop-entry : goal.invariant-loop-entry
invariant-loop-entry l =
    (length l.should ≡ length l.initial.should)
    × (every (agrees l.components l.inputs l.outputs) (take l.entry-index l.entry-items) ≡ true)
    × MarkedAgree (lent l.components l.inputs l.outputs [] no_counts) l.marks
    × ((xs : List ℕ) → IsListed l.initial.marks xs → IsListed l.marks (xs ++ take l.entry-index l.entry-items))
