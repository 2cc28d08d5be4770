-- `put_wire`: the numbers of its two ends, one after the other.
-- Assumes nothing.
use mathlib.Core.List.{[], ◌∷◌}
use Rattle.text.specs.Text.{numeral}
use Rattle.lines.specs.Lines.{wire_line}
use Rattle.lines.proofs.LinesLaws.{both_ended}
use Rattle.lines.proofs.put_wire.Goals as goal

pub returns : goal.returns
unfolding wire_line
returns c =
    let w = c.args.wire in
    both_ended (numeral w.dst.port) (10 ∷ [])
    (both_ended (numeral w.dst.comp.0) (46 ∷ [])
    (both_ended (numeral w.src.port) (32 ∷ []) c.put_ended-left.ensures c.put_ended-port.ensures)
    c.put_ended-entered.ensures) c.put_ended.ensures
