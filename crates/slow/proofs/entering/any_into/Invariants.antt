-- `any_into`: one of the targets still to come is an input of component i exactly if one of all is.
-- Assumes nothing.
use mathlib.Core.Path.{◌≡◌}
use mathlib.Core.Bool.{Bool}
use mathlib.Core.List.{List}
use Prim.Native.Nat.{ℕ, ◌-◌}
use lib.Dec.{eqb}
use Rattle.lists.specs.Lists.{from, any}
use Rattle.flatten.specs.declared.Pin.{Pin}
use Rattle.flatten.specs.Targets.{target_in, targets_in}
use Rattle.laying.specs.Laying.{end_by}
use Rattle.slow.proofs.entering.any_into.Given as goal

-- Target k of the table is an input of component i.
abbrev pub into : List ℕ → List ℕ → ℕ → ℕ → Bool
into fs ts i k = eqb (end_by fs (target_in ts k)).comp.0 i

abbrev pub invariant-loop-k : goal.invariant-loop-k
invariant-loop-k l =
    any (into l.indexes l.targets l.i) (from l.k (l.count - l.k))
    ≡ any (λ (t : Pin). eqb (end_by l.indexes t).comp.0 l.i) (targets_in l.targets l.count)
