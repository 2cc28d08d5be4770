-- `child_of`: a guess that the record bears out, else a search.
-- Assumes nothing.
use native.Mathlib.Omega.{arith}
use Rattle.index.proofs.NumberingLaws.{child_none}
use Rattle.index.proofs.child_of.Goals as goal

pub returns-then-is_child : goal.returns-then-is_child
returns-then-is_child c = c.is_child.ensures c.if-is_child.true

pub returns-then-word-place : goal.returns-then-word-place
returns-then-word-place c =
    child_none c.args.file.now c.args.index.now c.requires c.args.o c.args.k.0 (omega arith) (omega (arith, c.word-then-o-lt256.ensures))
