-- `stretch_of`: the words of the index, or every position.
-- Assumes nothing.
use borrow.Author.Tests.{lt-ltb, le-ltb}
use Rattle.index.proofs.stretch_of.Goals as goal

pub returns-then-c-lt256 : goal.returns-then-c-lt256
returns-then-c-lt256 c =
    let e = lt-ltb c.args.c 256 c.if-c-lt256.true in
    (rw e c.word.ensures.0, rw e c.word-then-c-lt256.ensures.0)

pub returns : goal.returns
returns c = let e = le-ltb c.args.c 256 c.if-c-lt256.false in (rw e, rw e)
