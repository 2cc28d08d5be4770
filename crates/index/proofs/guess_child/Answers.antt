-- `guess_child`: the write stands behind the words that are kept.
-- Assumes nothing.
use native.Mathlib.Omega.{arith}
use Rattle.index.proofs.IndexLaws.{kept_start, kept_set}
use Rattle.index.proofs.guess_child.Goals as goal

pub returns-then-at-lt256 : goal.returns-then-at-lt256
returns-then-at-lt256 c = kept_set 2304 _ _ _ _ (kept_start 2304 _) (omega arith)
