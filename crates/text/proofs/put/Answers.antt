-- `put`: a byte past the end is left out.
-- Assumes nothing.
use lib.ListN.{length}
use Rattle.text.proofs.TextLaws.{min_past, set_past}
use Rattle.text.proofs.put.Goals as goal

pub returns : goal.returns
returns c =
    let a = c.args in
    record { value = min_past a.at (length a.out.now) c.if-at-out.false; out_after = set_past a.out.now a.at a.byte c.if-at-out.false }
