-- `guess_map`: the write stands behind the words that are kept.
-- Assumes nothing.
use native.Mathlib.Omega.{arith}
use Rattle.index.proofs.IndexLaws.{kept_start, kept_set}
use Rattle.index.proofs.guess_map.Goals as goal

pub returns-then-index-q-eq0 : goal.returns-then-index-q-eq0
returns-then-index-q-eq0 c = kept_set 2304 _ _ _ _ (kept_start 2304 _) (omega arith)
