-- `put_components`: the first line, then a line for each.
-- Assumes nothing.
use native.Mathlib.Omega.{arith}
use Rattle.lines.proofs.LinesLaws.{both, begun_lines, next_line, no_line}
use Rattle.lines.proofs.put_components.Goals as goal
use Rattle.lines.proofs.put_components.Invariants.{line}

pub loop-i-init : goal.loop-i-init
loop-i-init c =
    let a = c.args in
    let h = c.put_counted-next in
    (omega arith, begun_lines (line a.components.now) a.count h.ensures)

pub loop-i-preserved : goal.loop-i-preserved
loop-i-preserved c =
    let a = c.args in
    let s = c.loop-i in
    let r = c.put_component-next in
    (omega arith, next_line (line a.components.now) s.i a.count (omega arith) s.invariant.1 r.ensures)

pub returns : goal.returns
returns c =
    let a = c.args in
    let h = c.put_counted-next in
    let s = c.loop-i in
    both h.ensures (no_line (line a.components.now) s.i a.count (omega arith) s.invariant.1)
