-- `first_failing`: the invariant: no position before p fails.
-- Assumes nothing.
use Rattle.std.proofs.Common.{false, ℕ, ◌<◌}
use Rattle.flatten.proofs.judgement.first_failing.Given as goal

abbrev pub invariant-loop-p : goal.invariant-loop-p
invariant-loop-p g l = (j : ℕ) → j < l.p → goal.F-post g l.fails j false
