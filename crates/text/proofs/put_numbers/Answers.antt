-- `put_numbers`: what is put so far is the numbers that the values so far gave; a turn puts the next value's, and at the end none is left.
-- Assumes nothing.
use native.Mathlib.Omega.{arith}
use Rattle.text.proofs.TextLaws.{put_one_more}
use Rattle.text.proofs.put_numbers.Goals as goal

pub loop-number-preserved : goal.loop-number-preserved
loop-number-preserved g c =
    let a = c.args in
    let s = c.loop-number in
    let r = c.put_spaced-next in (
      omega arith,
      put_one_more g.T.Into.converts a.out.now s.out r.new.out a.numbers.now a.at s.number-index c.number-item.result _ s.next r.result
          (omega arith) c.number-item.is c.into.ensures s.invariant.1 r.ensures.value r.ensures.out_after,
    )
