-- `put_net`: the components, then the wires.
-- Assumes nothing.
use Rattle.lines.proofs.LinesLaws.{both}
use Rattle.lines.proofs.put_net.Goals as goal

pub returns : goal.returns
returns c =
    let p = c.put_components-next in
    let w = c.put_wires in
    both p.ensures w.ensures
