-- `put_counted`: the word, then the number and the end of the line.
-- Assumes nothing.
use mathlib.Core.List.{[], ◌∷◌}
use Rattle.text.specs.Text.{numeral}
use Rattle.text.proofs.TextLaws.{put}
use Rattle.lines.proofs.LinesLaws.{both_ended}
use Rattle.lines.proofs.put_counted.Goals as goal

pub returns : goal.returns
returns c =
    let a = c.args in
    let w = c.put_bytes-named in
    let n = c.put_ended in
    both_ended (numeral a.count) (10 ∷ []) (put a.word.now (w.ensures.value, w.ensures.out_after)) n.ensures
