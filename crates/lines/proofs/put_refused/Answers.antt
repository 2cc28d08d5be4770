-- `put_refused`: the words and the numbers.
-- Assumes nothing.
use mathlib.Core.List.{[], ◌∷◌}
use Rattle.text.specs.Text.{numeral, ascii}
use Rattle.text.proofs.TextLaws.{put}
use Rattle.lines.proofs.LinesLaws.{both}
use Rattle.lines.proofs.put_refused.Goals as goal

pub returns : goal.returns
returns c =
    let w = c.put_bytes-named in
    let n = c.put_number-numbered in
    let x = c.put_bytes-parted in
    let p = c.put_number-placed in
    let q = c.put_against-told in
    both
    (both (both (both (both (put (ascii "refused ") (w.ensures.value, w.ensures.out_after)) (put (numeral _) (n.ensures.value, n.ensures.out_after))) (put (ascii " at ") (x.ensures.value, x.ensures.out_after)))
    (put (numeral _) (p.ensures.value, p.ensures.out_after))) q.ensures)
    (put (10 ∷ []) (c.put.ensures.value, c.put.ensures.out_after))
