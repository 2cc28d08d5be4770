-- `put_round`: the words, the number, and the part of the list that is in use.
-- Assumes nothing.
use mathlib.Core.Path.{sym}
use lib.ListN.{take}
use lib.Seq.{length-take-le}
use mathlib.Core.List.{[], ◌∷◌}
use Rattle.text.specs.Text.{numeral, ascii}
use Rattle.text.proofs.TextLaws.{put, put_themselves}
use Rattle.lines.proofs.LinesLaws.{both}
use borrow.Author.Rules.{rules}
use Rattle.lines.proofs.put_round.Goals as goal

pub slice_bounds-put_numbers-end : goal.slice_bounds-put_numbers-end
slice_bounds-put_numbers-end c = sym (length-take-le _ _ (search rules))

pub returns : goal.returns
returns c =
    let a = c.args in
    let w = c.put_bytes-named in
    let n = c.put_number-numbered in
    let x = c.put_bytes-next in
    let l = c.put_numbers-listed in
    let e = c.put in
    both
    (both (both (both (put (ascii "round ") (w.ensures.value, w.ensures.out_after)) (put (numeral a.round) (n.ensures.value, n.ensures.out_after))) (put (ascii " next") (x.ensures.value, x.ensures.out_after)))
    (put_themselves (take a.count a.current.now) l.ensures)) (put (10 ∷ []) (e.ensures.value, e.ensures.out_after))
