-- `put_against`: the word and the earlier record, or nothing.
-- Assumes nothing.
use mathlib.Core.List.{[]}
use Rattle.text.specs.Text.{numeral, ascii}
use Rattle.text.proofs.TextLaws.{put}
use Rattle.lines.proofs.LinesLaws.{both, named_as, against_named, against_none}
use Rattle.lines.proofs.put_against.Goals as goal

pub returns-then-number : goal.returns-then-number
returns-then-number c =
    let n = c.put_number in
    named_as (against_named c.args.refusal c.if-number.true) (both (put (ascii " against ") (c.put_bytes-named.ensures.value, c.put_bytes-named.ensures.out_after)) (put (numeral _) (n.ensures.value, n.ensures.out_after)))

pub returns : goal.returns
returns c = named_as (against_none c.args.refusal c.if-number.false) (put [] (c.put_bytes.ensures.value, c.put_bytes.ensures.out_after))
