-- `put_component`: the parts of the line, one after the other.
-- Assumes nothing.
use mathlib.Core.Path.{sym}
use mathlib.Core.List.{[], ◌∷◌}
use Rattle.text.specs.Text.{numeral}
use Rattle.lines.specs.Lines.{component_line}
use Rattle.text.proofs.TextLaws.{put}
use Rattle.lines.proofs.LinesLaws.{both, both_ended}
use Rattle.lines.proofs.put_component.Goals as goal

pub returns : goal.returns
unfolding component_line
returns c =
    let kind = c.kind_word-kind in
    let id = c.id_word-id in
    let index = c.put_ended-index in
    let name = c.put_kind-named in
    let blank = c.put-blank in
    let last = c.put_ended in
    rw (sym kind.ensures, sym id.ensures)
    (both_ended (numeral id.result) (10 ∷ []) (both (both index.ensures name.ensures) (put (32 ∷ []) (blank.ensures.value, blank.ensures.out_after)))
    last.ensures)
