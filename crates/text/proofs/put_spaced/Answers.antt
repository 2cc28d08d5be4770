-- `put_spaced`: a blank, and the numeral at the place after it.
-- Assumes nothing.
use mathlib.Core.List.{[], ◌∷◌}
use Rattle.text.specs.Text.{numeral}
use Rattle.text.proofs.TextLaws.{put_both}
use Rattle.text.proofs.put_spaced.Goals as goal

pub returns : goal.returns
returns c =
    let a = c.args in
    let b = c.put-next in
    let r = c.put_number in
    let e = put_both a.out.now b.new.out r.new.out (32 ∷ []) (numeral a.number) a.at b.result r.result
    b.ensures.value b.ensures.out_after r.ensures.value r.ensures.out_after in
    record { value = e.0; out_after = e.1 }
