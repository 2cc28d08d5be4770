-- `is_out_map`: a record with i of its owner's output maps before it is the ith.
-- Assumes nothing.
use Rattle.index.proofs.NumberingLaws.{out_map_is}
use mathlib.Core.Bool.{false≢true}
use Rattle.index.proofs.is_out_map.Goals as goal

pub returns-then-q-ge1024 : goal.returns-then-q-ge1024
returns-then-q-ge1024 c = λ e. absurd (false≢true e)

pub returns : goal.returns
returns c =
    let a = c.args in
    out_map_is a.file.now a.index.now c.requires.0 a.c a.q a.i _ c.requires.1 c.is_owned.ensures
