-- `join`: the ports passed, which are the last, are joined, and those before them are still to come.
-- Assumes nothing.
use mathlib.Core.Path.{◌≡◌}
use mathlib.Core.List.{◌++◌}
use lib.ListN.{length, drop}
use Rattle.std.specs.Iterator.Adapters.{rev_source}
use Rattle.std.specs.Slice.Iter.{iter_rest}
use Rattle.primitive.specs.Evaluate.{join}
use Rattle.primitive.proofs.rules.join.Given as goal

abbrev pub invariant-loop-port : goal.invariant-loop-port
invariant-loop-port l =
    let before = iter_rest (rev_source l.port-iterator) in
    (l.ports ≡ before ++ drop (length before) l.ports) × (l.number ≡ join (drop (length before) l.ports))
