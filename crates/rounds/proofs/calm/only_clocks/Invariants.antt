-- `only_clocks`: the entries passed so far name only Clocks.
-- Assumes nothing.
use mathlib.Core.Path.{◌≡◌}
use mathlib.Core.Bool.{Bool, true}
use mathlib.Core.List.{List}
use Prim.Native.Nat.{ℕ}
use lib.ListN.{take}
use Rattle.lists.specs.Lists.{every}
use Rattle.kinds.specs.declared.Kind.TheVariants.{Clock}
use Rattle.kinds.specs.Kinds.{is}
use Rattle.tables.specs.Words.{fields_in}
use Rattle.rounds.proofs.calm.only_clocks.Given as goal

abbrev pub clock : List ℕ → ℕ → Bool
clock cs i = is Clock (fields_in cs i)

abbrev pub invariant-loop-entry : goal.invariant-loop-entry
invariant-loop-entry l = every (clock l.components) (take l.entry-index l.entry-items) ≡ true
