-- `net_calm`: the first list that names another ends it; else the last one decides.
-- Assumes nothing.
use mathlib.Core.Path.{◌≡◌, sym, ◌∙◌}
use mathlib.Core.Bool.{Bool, ◌&&◌}
use mathlib.Core.List.{List, []}
use Prim.Native.Nat.{ℕ}
use lib.ListN.{take}
use Rattle.lists.proofs.TestsLaws.{and_first, and_second}
use Rattle.tables.specs.Words.{uncounted}
use Rattle.rounds.specs.Round.{only_clocks, calm}
use Rattle.rounds.proofs.calm.net_calm.Goals as goal
use Rattle.rounds.proofs.calm.net_calm.Goals.{else-only_clocks, then-only_clocks}
use Rattle.rounds.proofs.calm.net_calm.Lts as lts
use Rattle.rounds.proofs.calm.net_calm.Tie as tie
use Rattle.rounds.proofs.calm.net_calm.Reads as reads

abbrev Start : Type 0
Start = lts.Start tie.the-claims reads.Pre reads.Post

abbrev JoinedOnlyClocks : Type 0
JoinedOnlyClocks = lts.Joined1 tie.the-claims reads.Pre reads.Post

-- What the arguments say of the current, the following and the standing list.
module _ (s : Start) where
  abbrev only : ℕ → List ℕ → Bool
  only count list = only_clocks (uncounted s.args.components.now []) (take count list)

  abbrev current_only : Bool
  current_only = only s.args.counts.current s.args.current.now

  abbrev following_only : Bool
  following_only = only s.args.counts.following s.args.following.now

  abbrev standing_only : Bool
  standing_only = only s.args.counts.standing s.args.standing.now

-- Where the first two meet.
two : (c : JoinedOnlyClocks) →
    c.if-only_clocks.value ≡ (current_only c.before.before.before.before.before.before && following_only c.before.before.before.before.before.before)
two c =
    let asked = c.only_clocks in
    elim c.if-only_clocks.branch [ then-only_clocks w ↦ and_second (current_only c.before.before.before.before.before.before) (following_only c.before.before.before.before.before.before) _ (sym asked.ensures ∙ w.if-only_clocks.true) (w.value-is ∙ w.only_clocks-then-only_clocks.ensures) | else-only_clocks w ↦ and_first (current_only c.before.before.before.before.before.before) (following_only c.before.before.before.before.before.before) _ (sym asked.ensures ∙ w.if-only_clocks.false) (w.value-is ∙ w.if-only_clocks.false) ]

pub returns-then-only_clocks-2 : goal.returns-then-only_clocks-2
unfolding calm
returns-then-only_clocks-2 c =
    and_second (current_only c.before.before.before.before.before.before.before.before.before && following_only c.before.before.before.before.before.before.before.before.before) (standing_only c.before.before.before.before.before.before.before.before.before) _ (sym (two c.before.before.before) ∙ c.if-only_clocks-2.true) c.only_clocks-then-only_clocks-2.ensures

pub returns-else-only_clocks-2 : goal.returns-else-only_clocks-2
unfolding calm
returns-else-only_clocks-2 c =
    and_first (current_only c.before.before.before.before.before.before.before.before && following_only c.before.before.before.before.before.before.before.before) (standing_only c.before.before.before.before.before.before.before.before) _ (sym (two c.before.before) ∙ c.if-only_clocks-2.false) c.if-only_clocks-2.false
