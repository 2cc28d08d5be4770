-- `is_child`: a record with k of its owner's children before it is child k.
-- Assumes nothing.
use Rattle.index.proofs.NumberingLaws.{child_is}
use mathlib.Core.Bool.{false≢true}
use Rattle.index.proofs.is_child.Goals as goal

pub returns-then-c-eq0 : goal.returns-then-c-eq0
returns-then-c-eq0 c = λ e. absurd (false≢true e)

pub returns-then-c-ge256 : goal.returns-then-c-ge256
returns-then-c-ge256 c = λ e. absurd (false≢true e)

pub returns : goal.returns
returns c =
    let a = c.args in
    child_is a.file.now a.index.now c.requires.0 a.o a.c a.k _ c.requires.1 c.if-c-eq0.false c.if-c-ge256.false c.is_owned.ensures
