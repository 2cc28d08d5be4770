-- `put_ended`: the numeral, and the byte at the place after it.
-- Assumes nothing.
use mathlib.Core.List.{[], ◌∷◌}
use Rattle.text.specs.Text.{numeral}
use Rattle.text.proofs.TextLaws.{put}
use Rattle.lines.proofs.LinesLaws.{both}
use Rattle.lines.proofs.put_ended.Goals as goal

pub returns : goal.returns
returns c =
    let a = c.args in
    let n = c.put_number-next in
    let b = c.put in
    both (put (numeral a.number) (n.ensures.value, n.ensures.out_after)) (put (a.byte ∷ []) (b.ensures.value, b.ensures.out_after))
